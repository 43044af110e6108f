-- What stands in lists, and lists in which nothing stands twice.
use Rattle.std.proofs.Common.{◌≡◌, ◌≤◌, ◌⊎◌, zero, suc, List, [], ◌∷◌, ◌++◌, length, inl, inr, refl, ap, sym, subst, ◌∙◌, arith}
use Rattle.std.specs.List.{Contains, AllPairs}
use Rattle.std.proofs.lemmas.List.{get_or_default, length-append}
use Rattle.std.proofs.lemmas.List.Elements.{Contains-append_left, Contains-append_right, Contains-append_cases}
use Rattle.std.proofs.lemmas.List.Quantifiers.{all_pairs_push}

module _ {X : Type 0} where
  pub here : (x : X) (xs : List X) → Contains (x ∷ xs) x
  here x xs = (0, omega arith, refl)

  pub there : (x : X) (xs : List X) (y : X) → Contains xs y → Contains (x ∷ xs) y
  there x xs y h = let lt = h.1 in (suc h.0, omega arith, h.2)

  pub nothing_there : (y : X) → Contains [] y → ⊥
  nothing_there y h = let lt = h.1 in omega arith

  pub first_or_rest : (x : X) (xs : List X) (y : X) → Contains (x ∷ xs) y → (x ≡ y) ⊎ Contains xs y
  first_or_rest x xs y (zero, lt, e) = inl e
  first_or_rest x xs y (suc k, lt, e) = inr (k, omega (arith, lt), e)

  -- nothing stands twice
  abbrev pub Distinct : List X → Type 0
  Distinct = AllPairs (λ x y. x ≡ y → ⊥)

  pub distinct_push : (xs : List X) (y : X) → Distinct xs → (Contains xs y → ⊥) → Distinct (xs ++ y ∷ [])
  distinct_push xs y h fresh = all_pairs_push (λ x z. x ≡ z → ⊥) xs y h (λ k d within e. fresh (k, within, get_or_default xs k y d within ∙ e))

  apart : (x : X) (xs : List X) → Distinct (x ∷ xs) → (t : X) → Contains xs t → x ≡ t → ⊥
  apart x xs h t c e = let lt = c.1 in h 0 (suc c.0) t (omega arith) (omega (arith, lt)) (e ∙ sym c.2)

  later : (x : X) (xs : List X) → Distinct (x ∷ xs) → Distinct xs
  later x xs h i j d lt within = h (suc i) (suc j) d (omega (arith, lt)) (omega (arith, within))

  record Split (ys : List X) (x : X) : Type 0 where
    before : List X
    after : List X
    is : ys ≡ before ++ x ∷ after

  split : (ys : List X) (x : X) → Contains ys x → Split ys x
  split [] x h = absurd (nothing_there x h)
  split (y ∷ ys) x h = elim (first_or_rest y ys x h) [
    | inl e ↦ record { before = []; after = ys; is = ap (λ z. z ∷ ys) e }
    | inr rest ↦ let s = split ys x rest in record { before = y ∷ s.before; after = s.after; is = ap (λ l. y ∷ l) s.is }
  ]

  others : (before after : List X) (x t : X) → (x ≡ t → ⊥) → Contains (before ++ x ∷ after) t → Contains (before ++ after) t
  others before after x t differ h = elim (Contains-append_cases before (x ∷ after) t h) [
    | inl l ↦ Contains-append_left before after t l
    | inr r ↦ elim (first_or_rest x after t r) [ inl e ↦ absurd (differ e) | inr rest ↦ Contains-append_right before after t rest ]
  ]

  -- distinct elements of a list are at most as many
  pub at_most : (xs ys : List X) → Distinct xs → ((t : X) → Contains xs t → Contains ys t) → length xs ≤ length ys
  at_most [] ys h sub = omega arith
  at_most (x ∷ xs) ys h sub =
      let s = split ys x (sub x (here x xs)) in
      let fewer = at_most xs (s.before ++ s.after) (later x xs h) (λ t c. others s.before s.after x t (apart x xs h t c) (subst (λ l. Contains l t) s.is (sub t (there x xs t c)))) in
      let whole = length-append s.before (x ∷ s.after) in
      let parts = length-append s.before s.after in
      let same = ap length s.is in
      omega (arith, fewer, whole, parts, same)
