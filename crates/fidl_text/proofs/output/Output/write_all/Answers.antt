use Rattle.std.proofs.Common.{ap}
use Rattle.fidl_text.proofs.Written.{so_far_taken, so_far_refused, rest_of}
use Rattle.fidl_text.proofs.output.Output.write_all.Goals.{in-Ok, in-Err}
use Rattle.fidl_text.proofs.output.Output.write_all.Goals as goal

pub loop-preserved : goal.loop-preserved
loop-preserved g c = (
  elim c.match-write.branch [
    | in-Ok w ↦ so_far_taken _ _ _ _ c.loop.rest.now _ c.write.result _ c.loop.invariant.0 c.write.ensures.bytes w.in-Ok.is (rest_of _ c.loop.rest.now w.in-Ok.count (ap (λ r. r.now) w.rest-is))
    | in-Err w ↦ so_far_refused _ _ _ _ c.loop.rest.now _ c.write.result _ c.loop.invariant.0 c.write.ensures.bytes w.in-Err.is (ap (λ r. r.now) w.rest-is)
  ],
  c.loop.invariant.1,
)
