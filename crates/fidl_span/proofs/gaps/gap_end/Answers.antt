use Rattle.fidl_span.proofs.GapLaws.{gap_join, gap_none}
use Rattle.fidl_span.proofs.gaps.gap_end.Goals as goal

pub loop-end-init : goal.loop-end-init
loop-end-init c = gap_none _ _ c.requires

pub loop-end-preserved : goal.loop-end-preserved
loop-end-preserved c = gap_join _ _ _ _ c.loop-end.invariant c.in-Some.ensures.found.1
