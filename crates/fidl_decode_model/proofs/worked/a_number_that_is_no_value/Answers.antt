use Rattle.fidl_decode_model.proofs.Unknown.{third_value, second_value, any_value}
use Rattle.fidl_decode_model.proofs.worked.a_number_that_is_no_value.Goals as goal

pub returns-clause-strict : goal.returns-clause-strict
returns-clause-strict c = third_value

pub returns-clause-value : goal.returns-clause-value
returns-clause-value c = second_value

pub returns-clause-flexible : goal.returns-clause-flexible
returns-clause-flexible c = any_value
