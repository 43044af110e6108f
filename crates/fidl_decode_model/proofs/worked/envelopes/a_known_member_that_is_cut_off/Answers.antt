use Rattle.std.proofs.Common.{refl, arith}
use Rattle.fidl_decode_model.proofs.worked.envelopes.a_known_member_that_is_cut_off.Goals as goal

pub returns-clause-cut : goal.returns-clause-cut
returns-clause-cut c = (refl, refl, omega arith)

pub returns-clause-whole : goal.returns-clause-whole
returns-clause-whole c h = omega (arith, h.2)
