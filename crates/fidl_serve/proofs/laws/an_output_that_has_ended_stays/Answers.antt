use Rattle.fidl_serve.proofs.Growing.{closes}
use Rattle.fidl_serve.proofs.laws.an_output_that_has_ended_stays.Goals as goal

pub returns : goal.returns
returns c = closes
