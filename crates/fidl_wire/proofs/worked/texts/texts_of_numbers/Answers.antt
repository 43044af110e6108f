use Rattle.std.proofs.Common.{refl}
use Rattle.std.specs.Fmt.{digits}
use Rattle.fidl_wire.proofs.worked.texts.texts_of_numbers.Goals as goal

pub returns-clause-zero : goal.returns-clause-zero
unfolding digits
returns-clause-zero c = refl

pub returns-clause-great : goal.returns-clause-great
unfolding digits
returns-clause-great c = refl

pub returns-clause-negative : goal.returns-clause-negative
unfolding digits
returns-clause-negative c = refl

pub returns-clause-least : goal.returns-clause-least
unfolding digits
returns-clause-least c = refl

pub returns-clause-bits : goal.returns-clause-bits
unfolding digits
returns-clause-bits c = refl

pub returns-clause-enum_number : goal.returns-clause-enum_number
unfolding digits
returns-clause-enum_number c = refl
