use Rattle.std.proofs.Common.{refl}
use Rattle.fidl_wire.specs.Value.{none}
use Rattle.fidl_view.proofs.worked.other_values.Goals as goal

pub returns-clause-of_a_list : goal.returns-clause-of_a_list
returns-clause-of_a_list c every = every none refl

pub returns-clause-a_struct : goal.returns-clause-a_struct
returns-clause-a_struct c every = every none refl
