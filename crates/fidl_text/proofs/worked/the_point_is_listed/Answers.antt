use Rattle.std.proofs.Common.{refl}
use Rattle.std.specs.Fmt.{digits}
use Rattle.fidl_text.proofs.worked.the_point_is_listed.Goals as goal

pub returns : goal.returns
unfolding digits
returns c = refl
