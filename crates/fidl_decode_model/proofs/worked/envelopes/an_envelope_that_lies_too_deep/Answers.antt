use Rattle.std.proofs.Common.{refl, arith}
use Rattle.fidl_decode_model.proofs.worked.envelopes.an_envelope_that_lies_too_deep.Goals as goal

pub returns-clause-deep : goal.returns-clause-deep
returns-clause-deep c = (refl, refl, omega arith)

pub returns-clause-less : goal.returns-clause-less
returns-clause-less c h = omega (arith, h.2)

pub returns-clause-inline : goal.returns-clause-inline
returns-clause-inline c h = omega (arith, h.1)
