use Rattle.fidl_decode_model.proofs.UnionFacts.{over_handles, most_handles}
use Rattle.fidl_decode_model.proofs.worked.unions.handles_that_no_message_has.Goals as goal

pub returns-clause-over : goal.returns-clause-over
returns-clause-over c = over_handles

pub returns-clause-most : goal.returns-clause-most
returns-clause-most c = most_handles
