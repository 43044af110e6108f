use Rattle.fidl_decode_model.proofs.Inverted.{number_no_bool}
use Rattle.fidl_decode_model.proofs.worked.a_number_is_no_bool.Goals as goal

pub returns : goal.returns
returns c = number_no_bool
