-- A parameter that is a truth value, as the number that it is.
use lib.Dec.{eqb-suc-zero}
use Rattle.std.proofs.Common.{◌≡◌, ℕ, zero, suc, refl, ap}
use Rattle.std.specs.Prelude.{IsTrue, not, eqb}

-- one that is not false is true
pub is_set : (flag : ℕ) → (flag ≡ 0 → ⊥) → IsTrue (not (eqb flag 0))
is_set zero some = absurd (some refl)
is_set (suc n) some = ap not (eqb-suc-zero n)
