use Rattle.fidl_payloads.proofs.Defined.{defined}
use Rattle.fidl_payloads.proofs.laws.payloads_are_defined.Goals as goal

pub returns : goal.returns
returns c = defined
