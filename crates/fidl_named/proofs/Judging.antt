-- What holds of things one after another, and what a refusal says.
use Rattle.std.proofs.Common.{◌≡◌, ◌+◌, ◌<◌, ℕ, Bool, true, false, cond, List, [], ◌∷◌, ◌++◌, Some, length, take, get_or, sym, ap, subst, ◌∙◌, inl, inr, below_more}
use Rattle.std.specs.Prelude.{slice_get, Result, IfErr}
use Rattle.std.specs.List.{filter}
use Rattle.std.proofs.lemmas.List.{append-nil}
use Rattle.std.proofs.lemmas.List.Elements.{filter_more}
use Rattle.std.proofs.lemmas.Option.{get_or_from_slice_get}
use Rattle.std.proofs.lemmas.Result.{IfErr-weaker}
use Rattle.fidl_named.specs.declared.fault.NameFault.{NameFault}
use Rattle.fidl_named.specs.Scopes.{IsMemoryOr}

module _ {X : Type 0} (xs : List X) (i : ℕ) (x : X) (is : x ≡ get_or xs i x) where
  filtered : (p : X → Bool) (b : Bool) → i < length xs → p x ≡ b → filter p (take (i + 1) xs) ≡ filter p (take i xs) ++ cond b (x ∷ []) []
  filtered p b lt h =
      filter_more p xs i x lt
      ∙ ap (λ y. filter p (take i xs) ++ cond (p y) (y ∷ []) []) (sym is)
      ∙ ap (λ c. filter p (take i xs) ++ cond c (x ∷ []) []) h

  -- one more that passes, and one more that doesn't
  pub passes : (p : X → Bool) → i < length xs → p x ≡ true → filter p (take (i + 1) xs) ≡ filter p (take i xs) ++ x ∷ []
  passes p lt h = filtered p true lt h

  pub fails : (p : X → Bool) → i < length xs → p x ≡ false → filter p (take (i + 1) xs) ≡ filter p (take i xs)
  fails p lt h = filtered p false lt h ∙ append-nil (filter p (take i xs))

  -- one more that holds at its number
  pub holds_more : (P : ℕ → X → Type 0) → ((k : ℕ) → k < i → (y : X) → slice_get xs k ≡ Some y → P k y) → P i x → (k : ℕ) → k < i + 1 → (y : X) → slice_get xs k ≡ Some y → P k y
  holds_more P before here = below_more (λ k. (y : X) → slice_get xs k ≡ Some y → P k y) i before (λ y at. subst (P i) (is ∙ get_or_from_slice_get xs i y x at) here)

module _ (P Q : NameFault → Type 0) (wider : (fault : NameFault) → P fault → Q fault) where
  pub reports_more : (fault : NameFault) → IsMemoryOr P fault → IsMemoryOr Q fault
  reports_more fault (inl e) = inl e
  reports_more fault (inr h) = inr (wider fault h)

  -- what a refusal says, of a whole that it is a part of
  pub reported_more : {T : Type 0} (r : Result T NameFault) → IfErr r (IsMemoryOr P) → IfErr r (IsMemoryOr Q)
  reported_more r h = IfErr-weaker r (IsMemoryOr P) (IsMemoryOr Q) reports_more h
