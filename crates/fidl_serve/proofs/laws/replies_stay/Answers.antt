use Rattle.fidl_requests.proofs.One.{one_verdict}
use Rattle.fidl_serve.proofs.Growing.{continues}
use Rattle.fidl_serve.proofs.laws.replies_stay.Goals as goal

pub returns : goal.returns
returns c = λ p i s input more o q h k. let e = continues p (one_verdict p i) s input more o q h k in (e.later, e.replies)
