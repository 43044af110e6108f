use Rattle.std.proofs.Common.{refl}
use Rattle.fidl_wire.specs.Term as ty
use Rattle.fidl_ir_rules.specs.Samples.{a_handle, holding, holding_two}
use Rattle.fidl_ir_rules.proofs.worked.resources_are_marked.Goals as goal

pub returns-clause-broken : goal.returns-clause-broken
returns-clause-broken c = record { definition = holding_two ty.bool a_handle; member = a_handle; stands = refl; unmarked = refl; among = refl; resource = refl }

pub returns-clause-by_a_name : goal.returns-clause-by_a_name
returns-clause-by_a_name c = record { definition = holding (ty.named 1); member = ty.named 1; stands = refl; unmarked = refl; among = refl; resource = refl }
