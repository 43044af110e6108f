use Rattle.fidl_requests.proofs.One.{one_verdict}
use Rattle.fidl_requests.proofs.laws.a_frame_has_one_verdict.Goals as goal

pub returns : goal.returns
returns c = one_verdict
