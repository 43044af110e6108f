use Rattle.std.proofs.Common.{false, refl}
use Rattle.fidl_tree.specs.Syntax.{struct_layout}
use Rattle.fidl_type_rules.proofs.Small.{struct_comes}
use Rattle.fidl_type_rules.proofs.worked.boxes_are_of_structs.Goals as goal

pub returns-clause-of_struct : goal.returns-clause-of_struct
returns-clause-of_struct c = λ files n k ms. struct_comes files n (struct_layout false k ms) refl
