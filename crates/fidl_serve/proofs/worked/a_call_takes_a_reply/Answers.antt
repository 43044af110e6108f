use Rattle.std.proofs.Common.{refl}
use Rattle.fidl_serve.specs.Replying.{script_after}
use Rattle.fidl_serve.proofs.worked.a_call_takes_a_reply.Goals as goal

pub returns : goal.returns
unfolding script_after
returns c = refl
