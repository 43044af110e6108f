use Rattle.std.proofs.Common.{refl}
use Rattle.std.specs.Fmt.{digits}
use Rattle.fidl_wire.proofs.worked.texts.texts_of_handles.Goals as goal

pub returns : goal.returns
unfolding digits
returns c = refl
