use Rattle.std.proofs.Common.{refl}
use Rattle.std.specs.Fmt.{digits}
use Rattle.fidl_wire.proofs.worked.texts.texts_of_tables.Goals as goal

pub returns-clause-empty : goal.returns-clause-empty
unfolding digits
returns-clause-empty c = refl

pub returns-clause-of_two : goal.returns-clause-of_two
unfolding digits
returns-clause-of_two c = refl
