use Rattle.fidl_decode_model.proofs.Handed.{other_type, any_type}
use Rattle.fidl_decode_model.proofs.worked.a_handle_of_another_type.Goals as goal

pub returns-clause-wrong : goal.returns-clause-wrong
returns-clause-wrong c = other_type

pub returns-clause-any : goal.returns-clause-any
returns-clause-any c = any_type
