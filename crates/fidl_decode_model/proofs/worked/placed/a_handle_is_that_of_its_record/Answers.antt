use Rattle.fidl_decode_model.proofs.Led.{second_there, first_not}
use Rattle.fidl_decode_model.proofs.worked.placed.a_handle_is_that_of_its_record.Goals as goal

pub returns-clause-second : goal.returns-clause-second
returns-clause-second c = second_there

pub returns-clause-first : goal.returns-clause-first
returns-clause-first c = first_not
