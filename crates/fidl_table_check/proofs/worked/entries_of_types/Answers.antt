use Rattle.std.proofs.Common.{refl}
use Rattle.fidl_wire.specs.Term.{uint8}
use Rattle.fidl_wire.specs.Term as ty
use Rattle.fidl_table_check.proofs.Small.{one_bool, no_number}
use Rattle.fidl_table_check.proofs.worked.entries_of_types.Goals as goal

pub returns-clause-a_bool : goal.returns-clause-a_bool
returns-clause-a_bool c = record { count = refl; levels = one_bool }

pub returns-clause-other : goal.returns-clause-other
returns-clause-other c = λ h. no_number (h.levels 0 (ty.number uint8) refl)
