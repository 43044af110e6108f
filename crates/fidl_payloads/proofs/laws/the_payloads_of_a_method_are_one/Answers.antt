use Rattle.fidl_payloads.proofs.One.{one_request, one_response}
use Rattle.fidl_payloads.proofs.laws.the_payloads_of_a_method_are_one.Goals as goal

pub returns-clause-request : goal.returns-clause-request
returns-clause-request c = one_request

pub returns-clause-response : goal.returns-clause-response
returns-clause-response c = one_response
