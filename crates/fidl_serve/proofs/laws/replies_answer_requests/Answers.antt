use Rattle.fidl_serve.proofs.Requests.{replies_answer}
use Rattle.fidl_serve.proofs.laws.replies_answer_requests.Goals as goal

pub returns : goal.returns
returns c = replies_answer
