use Rattle.fidl_requests.proofs.Numbered.{one_number}
use Rattle.fidl_requests.proofs.laws.an_ordinal_has_one_method.Goals as goal

pub returns : goal.returns
returns c = one_number
