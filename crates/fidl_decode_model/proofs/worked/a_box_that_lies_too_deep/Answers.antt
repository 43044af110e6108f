use Rattle.fidl_decode_model.proofs.Held.{box_too_deep}
use Rattle.fidl_decode_model.proofs.worked.a_box_that_lies_too_deep.Goals as goal

pub returns : goal.returns
returns c = box_too_deep
