use Rattle.fidl_type_shape.proofs.Chains.{in_itself}
use Rattle.fidl_type_shape.proofs.worked.a_struct_in_itself.Goals as goal

pub returns : goal.returns
returns c = in_itself
