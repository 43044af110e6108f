use Rattle.fidl_decode_model.proofs.Held.{second_element, first_element}
use Rattle.fidl_decode_model.proofs.worked.a_bool_in_a_vector.Goals as goal

pub returns-clause-second : goal.returns-clause-second
returns-clause-second c = second_element

pub returns-clause-first : goal.returns-clause-first
returns-clause-first c = first_element
