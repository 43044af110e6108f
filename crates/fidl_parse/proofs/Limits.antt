-- Beginnings of words that are within the limit of open brackets.
use Rattle.std.proofs.Common.{ℕ, ◌+◌, ◌≤◌, List, length, take, min, sym, subst, ◌∙◌, arith}
use Rattle.std.specs.List.{count_by}
use Rattle.std.proofs.lemmas.List.{take-take, take_min, length-take}
use Rattle.fidl_span.specs.declared.words.Word.{Word}
use Rattle.fidl_limits.specs.declared.limits.TheConstants.{MAX_SOURCE_BRACKETS}
use Rattle.fidl_tree.specs.Brackets.{IsWithinLimit, opens, closes}

-- a beginning of a beginning within the limit is within it
pub within_take : (ws : List Word) (n m : ℕ) → n ≤ m → IsWithinLimit (take m ws) → IsWithinLimit (take n ws)
within_take ws n m le h k =
    let below : min k (length (take n ws)) ≤ n = omega (arith, length-take n ws) in
    let same = take-take (min k (length (take n ws))) m ws (omega (arith, below, le)) ∙ (sym (take-take (min k (length (take n ws))) n ws below) ∙ take_min k (take n ws)) in
    subst (λ l. count_by (λ w. opens w.kind) l ≤ count_by (λ w. closes w.kind) l + MAX_SOURCE_BRACKETS) same (h (min k (length (take n ws))))
