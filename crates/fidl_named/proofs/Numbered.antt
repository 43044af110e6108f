-- The number of a name in a list.
use Rattle.std.proofs.Common.{◌≡◌, ◌<◌, ℕ, zero, suc, List, [], ◌∷◌, Some, None, inl, inr, refl, if◌then◌else◌, ap, ◌∙◌, arith, slice_get}
use Rattle.std.specs.Prelude.{option_map}
use Rattle.std.proofs.lemmas.Bool.{cases_Bool}
use Rattle.fidl_named.specs.Imports.{same}
use Rattle.fidl_named.specs.Constraints.{number_in}
use Rattle.fidl_named.proofs.Taken.{same_is}

module _ (n : List ℕ) where
  if_other : (x : List ℕ) (xs : List (List ℕ)) → (x ≡ n → ⊥) → number_in (x ∷ xs) n ≡ option_map suc (number_in xs n)
  if_other x xs other = elim (cases_Bool (same x n)) as (λ _. number_in (x ∷ xs) n ≡ option_map suc (number_in xs n)) [
    | inl it ↦ absurd (other ((same_is x n).0 it))
    | inr off ↦ ap (λ b. if b then Some 0 else option_map suc (number_in xs n)) off
  ]

  -- the first of the name
  pub number_found : (xs : List (List ℕ)) (i : ℕ) → slice_get xs i ≡ Some n → ((k : ℕ) → k < i → slice_get xs k ≡ Some n → ⊥) → number_in xs n ≡ Some i
  number_found [] i at none = absurd (cc)
  number_found (x ∷ xs) zero at none =
      let is : x ≡ n = cc in
      ap (λ b. if b then Some 0 else option_map suc (number_in xs n)) ((same_is x n).1 is)
  number_found (x ∷ xs) (suc i) at none =
      if_other x xs (λ is. none 0 (omega arith) (ap (λ y. Some y) is)) ∙ ap (option_map suc) (number_found xs i at (λ k lt. none (suc k) (omega (arith, lt))))

  -- none of them
  pub number_none : (xs : List (List ℕ)) → ((i : ℕ) → slice_get xs i ≡ Some n → ⊥) → number_in xs n ≡ None
  number_none [] none = refl
  number_none (x ∷ xs) none =
      if_other x xs (λ is. none 0 (ap (λ y. Some y) is)) ∙ ap (option_map suc) (number_none xs (λ k. none (suc k)))
