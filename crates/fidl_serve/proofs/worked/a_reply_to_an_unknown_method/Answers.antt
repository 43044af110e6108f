use Rattle.std.proofs.Common.{refl}
use Rattle.fidl_serve.specs.Replying.{frame_of}
use Rattle.fidl_serve.proofs.worked.a_reply_to_an_unknown_method.Goals as goal

pub returns : goal.returns
unfolding frame_of
returns c = refl
