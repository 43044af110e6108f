use Rattle.fidl_decode_model.proofs.Inverted.{bad_element}
use Rattle.fidl_decode_model.proofs.worked.a_bool_in_an_array_that_is_2.Goals as goal

pub returns : goal.returns
returns c = bad_element
