use Rattle.std.proofs.Common.{arith, refl, ◌∙◌}
use Rattle.fidl_frames.proofs.Moves.{consumes_none, filled_more, filled_within, counted_none, counted_more}
use Rattle.fidl_frames.proofs.filling.fill.Goals as goal

pub loop-count-init : goal.loop-count-init
loop-count-init g c = record {
  within = omega arith;
  bytes = consumes_none _;
  left = omega arith;
  used = λ h. omega arith;
  counted = counted_none _ _;
  failed = refl;
}

pub loop-count-preserved : goal.loop-count-preserved
loop-count-preserved g c = record {
  within = filled_within _ _ _ _ _ c.loop-count.invariant.within c.in-Ok.ensures.bound.0;
  bytes = filled_more _ _ _ _ _ _ _ _ c.loop-count.invariant.within c.in-Ok.ensures.bound.0 c.loop-count.invariant.bytes c.in-Ok.ensures.bytes.0;
  left = omega arith;
  used = λ h. omega arith;
  counted = counted_more _ _ _ _ _ c.loop-count.invariant.left c.if-left-eq0.false c.loop-count.invariant.counted c.in-Ok.ensures.counted;
  failed = c.in-Ok.ensures.failed ∙ c.loop-count.invariant.failed;
}
