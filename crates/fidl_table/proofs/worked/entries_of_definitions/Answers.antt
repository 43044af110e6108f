use Rattle.fidl_wire.specs.Value as value
use Rattle.fidl_table.proofs.Small.{a_struct}
use Rattle.fidl_table.proofs.worked.entries_of_definitions.Goals as goal

pub returns-clause-a_struct : goal.returns-clause-a_struct
returns-clause-a_struct c = a_struct

pub returns-clause-other_type : goal.returns-clause-other_type
returns-clause-other_type c = λ files h. (h.same (value.fields value.none)).typed.0 tt

pub returns-clause-other_definition : goal.returns-clause-other_definition
returns-clause-other_definition c = λ files h. (h.same (value.fields value.none)).typed.1 tt
