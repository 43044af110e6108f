use Rattle.std.proofs.Common.{below_more}
use Rattle.fidl_verify.proofs.ordinal.are_ordinals.Goals as goal

pub loop-place-preserved : goal.loop-place-preserved
loop-place-preserved c = below_more _ _ c.loop-place.invariant (c.is_ordinal.ensures.0 c.if-not-is_ordinal.false)
