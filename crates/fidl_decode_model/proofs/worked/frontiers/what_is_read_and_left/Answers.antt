use Rattle.std.proofs.Common.{◌≡◌, arith}
use Rattle.fidl_decode_model.proofs.worked.frontiers.what_is_read_and_left.Goals as goal

pub returns-clause-linked : goal.returns-clause-linked
returns-clause-linked c = λ h. let e : 16 ≡ 0 = h.stays.objects 1 (λ p q. omega (arith, q)) (λ p q. omega (arith, p)) in omega (arith, e)
