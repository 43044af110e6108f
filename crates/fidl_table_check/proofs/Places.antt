-- What holds at each place of a list.
use Rattle.std.proofs.Common.{◌≡◌, ℕ, suc, ◌+◌, ◌<◌, List, length, get_or, Some, slice_get, inl, inr, sym, ◌∙◌, subst, arith}
use Rattle.std.proofs.lemmas.Option.{slice_get_within, get_or_from_slice_get}
use Rattle.fidl_verify.proofs.Stated.{or_last}

-- at one place more, and at all of them
module _ {X : Type 0} (xs : List X) (P : ℕ → X → Type 0) where
  pub one_more : (i : ℕ) (x : X) → x ≡ get_or xs i x → P i x → ((k : ℕ) (y : X) → k < i → slice_get xs k ≡ Some y → P k y)
      → (k : ℕ) (y : X) → k < i + 1 → slice_get xs k ≡ Some y → P k y
  one_more i x is here before k y p at =
      elim (or_last k i (omega (arith, p))) [
        | inl less ↦ before k y less at
        | inr e ↦
            let same : get_or xs i x ≡ y = get_or_from_slice_get xs i y x (subst (λ j. slice_get xs j ≡ Some y) e at) in
            subst (λ z. P k z) (is ∙ same) (subst (λ j. P j x) (sym e) here)
      ]

  pub all_places : (n : ℕ) → length xs ≡ n → ((k : ℕ) (y : X) → k < n → slice_get xs k ≡ Some y → P k y) → (k : ℕ) (y : X) → slice_get xs k ≡ Some y → P k y
  all_places n long before k y at = before k y (omega (arith, slice_get_within xs k y at, long)) at

-- the next place, counted from the next number on
pub next : (P : ℕ → Type 0) (first k : ℕ) → P (first + suc k) → P (suc first + k)
next P first k p = let e : first + suc k ≡ suc first + k = omega arith in subst P e p

pub here : (P : ℕ → Type 0) (first : ℕ) → P (first + 0) → P first
here P first p = let e : first + 0 ≡ first = omega arith in subst P e p
