use Rattle.std.proofs.Common.{refl}
use Rattle.fidl_streams.proofs.Taking.{so_far_taken}
use Rattle.fidl_streams.proofs.writing.write_all.Goals as goal

pub loop-rest-preserved : goal.loop-rest-preserved
loop-rest-preserved g c = so_far_taken _ _ _ _ c.loop-rest.rest.now _ c.in-Ok.count c.loop-rest.invariant c.in-Ok.ensures.bytes c.in-Ok.ensures.failed c.in-Ok.count-test.1 refl
