use Rattle.std.proofs.Common.{◌≡◌, arith}
use Rattle.fidl_decode_model.proofs.worked.frontiers.cells_that_stay.Goals as goal

pub returns-clause-other : goal.returns-clause-other
returns-clause-other c = λ h. let e : 16 ≡ 0 = h.objects 1 (λ p q. omega (arith, q)) (λ p q. omega (arith, p)) in omega (arith, e)
