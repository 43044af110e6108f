use Rattle.std.proofs.Common.{below_more}
use Rattle.fidl_verify.proofs.number.are_enum_ranges.Goals as goal

pub loop-place-preserved : goal.loop-place-preserved
loop-place-preserved c = below_more _ _ c.loop-place.invariant (c.is_enum_range.ensures.0 c.if-not-is_enum_range.false)
