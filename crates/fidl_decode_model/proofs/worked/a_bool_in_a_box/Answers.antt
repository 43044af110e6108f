use Rattle.fidl_decode_model.proofs.Held.{box_two, box_one, box_behind}
use Rattle.fidl_decode_model.proofs.worked.a_bool_in_a_box.Goals as goal

pub returns-clause-two : goal.returns-clause-two
returns-clause-two c = box_two

pub returns-clause-one : goal.returns-clause-one
returns-clause-one c = box_one

pub returns-clause-behind : goal.returns-clause-behind
returns-clause-behind c = box_behind
