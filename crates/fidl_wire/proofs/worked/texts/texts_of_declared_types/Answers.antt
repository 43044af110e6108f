use Rattle.std.proofs.Common.{refl}
use Rattle.std.specs.Fmt.{digits}
use Rattle.fidl_wire.proofs.worked.texts.texts_of_declared_types.Goals as goal

pub returns-clause-in_a_table : goal.returns-clause-in_a_table
unfolding digits
returns-clause-in_a_table c = refl
