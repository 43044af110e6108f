use Rattle.std.proofs.Common.{refl}
use Rattle.fidl_serve.specs.Replying.{frame_of}
use Rattle.fidl_serve.proofs.worked.a_reply_with_a_handle.Goals as goal

pub returns : goal.returns
unfolding frame_of
returns c = refl
