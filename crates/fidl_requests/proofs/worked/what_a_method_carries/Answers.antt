use Rattle.std.proofs.Common.{rules, true}
use Rattle.fidl_wire.specs.Value.{bool}
use Rattle.fidl_requests.proofs.worked.what_a_method_carries.Goals as goal

pub returns-clause-a_value : goal.returns-clause-a_value
returns-clause-a_value c = (bool true, search rules)
