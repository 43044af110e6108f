use Rattle.fidl_requests.proofs.Sampled.{sound}
use Rattle.fidl_requests.proofs.worked.the_protocol_of_the_examples.Goals as goal

pub returns : goal.returns
returns c = sound
