use Rattle.std.proofs.Common.{length, ◌-◌}
use Rattle.fidl_span.specs.Words.{IsGapBetween}
use Rattle.fidl_span.proofs.gaps.gap_end.Given as goal

abbrev pub invariant-loop-end : goal.invariant-loop-end
invariant-loop-end l = IsGapBetween l.src l.from l.to

abbrev pub decreases-loop-end : goal.decreases-loop-end
decreases-loop-end l = length l.src - l.to
