use Rattle.std.proofs.Common.{◌≡◌, arith}
use Rattle.fidl_decode_model.proofs.worked.readable.a_table_and_links.Goals as goal

pub returns-clause-last : goal.returns-clause-last
returns-clause-last c = λ h. let e : 40 ≡ 0 = (h.2.2 32 (omega arith) (omega arith)).0 in omega (arith, e)

pub returns-clause-inside : goal.returns-clause-inside
returns-clause-inside c = λ h. let e : 48 ≡ 0 = (h.2.1.1 40 (omega arith) (omega arith)).0 in omega (arith, e)
