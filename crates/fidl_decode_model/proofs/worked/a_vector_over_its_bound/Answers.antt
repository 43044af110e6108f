use Rattle.fidl_decode_model.proofs.Held.{vector_over, vector_within}
use Rattle.fidl_decode_model.proofs.worked.a_vector_over_its_bound.Goals as goal

pub returns-clause-over : goal.returns-clause-over
returns-clause-over c = vector_over

pub returns-clause-within : goal.returns-clause-within
returns-clause-within c = vector_within
