use Rattle.fidl_requests.proofs.One.{one_verdict}
use Rattle.fidl_serve.proofs.Growing.{one_output}
use Rattle.fidl_serve.proofs.laws.an_input_has_one_output.Goals as goal

pub returns : goal.returns
returns c = λ p i. one_output p (one_verdict p i)
