use Rattle.std.proofs.Common.{refl}
use Rattle.std.specs.Fmt.{digits}
use Rattle.fidl_wire.proofs.worked.texts.texts_of_unknown_members.Goals as goal

pub returns-clause-in_a_union : goal.returns-clause-in_a_union
unfolding digits
returns-clause-in_a_union c = refl

pub returns-clause-with_handles : goal.returns-clause-with_handles
unfolding digits
returns-clause-with_handles c = refl
