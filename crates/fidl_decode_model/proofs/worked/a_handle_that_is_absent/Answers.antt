use Rattle.fidl_decode_model.proofs.Handed.{absent_required, absent_optional, one_one}
use Rattle.fidl_decode_model.proofs.worked.a_handle_that_is_absent.Goals as goal

pub returns-clause-required : goal.returns-clause-required
returns-clause-required c = absent_required

pub returns-clause-optional : goal.returns-clause-optional
returns-clause-optional c = absent_optional

pub returns-clause-neither : goal.returns-clause-neither
returns-clause-neither c = one_one
