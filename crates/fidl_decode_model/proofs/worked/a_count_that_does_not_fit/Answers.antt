use Rattle.fidl_decode_model.proofs.Held.{three_too_many, two_fit}
use Rattle.fidl_decode_model.proofs.worked.a_count_that_does_not_fit.Goals as goal

pub returns-clause-three : goal.returns-clause-three
returns-clause-three c = three_too_many

pub returns-clause-two : goal.returns-clause-two
returns-clause-two c = two_fit
