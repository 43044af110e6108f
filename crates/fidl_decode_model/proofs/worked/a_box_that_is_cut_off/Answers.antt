use Rattle.fidl_decode_model.proofs.Held.{box_cut, box_padded}
use Rattle.fidl_decode_model.proofs.worked.a_box_that_is_cut_off.Goals as goal

pub returns-clause-cut : goal.returns-clause-cut
returns-clause-cut c = box_cut

pub returns-clause-padded : goal.returns-clause-padded
returns-clause-padded c = box_padded
