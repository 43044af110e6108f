use Rattle.std.proofs.Common.{◌≡◌, ℕ, zero, suc, [], ◌∷◌, refl, arith}
use Rattle.fidl_decode_columns.specs.Columns.{IsWindow}
use Rattle.fidl_decode_columns.specs.Samples.{window_of}
use Rattle.fidl_decode_columns.proofs.worked.bits_that_are_seen.Goals as goal

seen_both : IsWindow (1 ∷ 2 ∷ 4 ∷ []) 0 1 (window_of 0 3 2)
seen_both zero zero few lt from to = refl
seen_both (suc zero) zero few lt from to = refl
seen_both (suc (suc k)) zero few lt from to = absurd (omega (arith, few))
seen_both k (suc i) few lt from to = absurd (omega (arith, to))

seen_first : IsWindow (1 ∷ 2 ∷ 4 ∷ []) 0 1 (window_of 0 1 1)
seen_first zero zero few lt from to = refl
seen_first (suc k) zero few lt from to = absurd (omega (arith, few))
seen_first k (suc i) few lt from to = absurd (omega (arith, to))

three_is_one : (n : ℕ) → n ≡ 3 → n ≡ 1 → ⊥
three_is_one n is e = omega (arith, is, e)

pub returns-clause-both : goal.returns-clause-both
returns-clause-both c = seen_both

pub returns-clause-first : goal.returns-clause-first
returns-clause-first c = seen_first

pub returns-clause-missed : goal.returns-clause-missed
returns-clause-missed c = λ h. three_is_one 3 refl (h 1 0 (omega arith) (omega arith) (omega arith) (omega arith))
