-- What stands in lists, and lists whose entries rise.
use Rattle.std.proofs.Common.{◌≡◌, ◌<◌, ◌⊎◌, ℕ, zero, suc, List, [], ◌∷◌, ◌++◌, Some, length, get_or, map, inl, inr, refl, ap, subst, ◌∙◌, arith}
use Rattle.std.specs.Prelude.{slice_get}
use Rattle.std.specs.List.{Contains, AllPairs}
use Rattle.std.proofs.lemmas.List.Elements.{Contains-get_or}
use Rattle.std.proofs.lemmas.List.Quantifiers.{all_pairs_push}
use Rattle.std.proofs.lemmas.Option.{slice_get-get_or, slice_get_within, get_or_from_slice_get, none-some}

module _ {X : Type 0} where
  pub here : (x : X) (xs : List X) → Contains (x ∷ xs) x
  here x xs = (0, omega arith, refl)

  pub there : (x : X) (xs : List X) (y : X) → Contains xs y → Contains (x ∷ xs) y
  there x xs y h = let lt = h.1 in (suc h.0, omega arith, h.2)

  pub nothing_there : (y : X) → Contains [] y → ⊥
  nothing_there y h = let lt = h.1 in omega arith

  pub first_or_rest : (x : X) (xs : List X) (y : X) → Contains (x ∷ xs) y → (x ≡ y) ⊎ Contains xs y
  first_or_rest x xs y (zero, lt, e) = inl e
  first_or_rest x xs y (suc k, lt, e) = inr (k, omega (arith, lt), e)

  pub just_one : (x y : X) → Contains (x ∷ []) y → x ≡ y
  just_one x y h = elim (first_or_rest x [] y h) [ inl e ↦ e | inr none ↦ absurd (nothing_there y none) ]

  -- what stands in a list, and its place
  pub found_at : (xs : List X) (x : X) (h : Contains xs x) → slice_get xs h.0 ≡ Some x
  found_at xs x h = slice_get-get_or xs h.0 x h.1 ∙ ap Some h.2

  pub among : (xs : List X) (k : ℕ) (x : X) → slice_get xs k ≡ Some x → Contains xs x
  among xs k x is = (k, slice_get_within xs k x is, get_or_from_slice_get xs k x x is)

  -- what a place of a list has after one more
  pub front_at : (xs ys : List X) (k : ℕ) (x : X) → slice_get xs k ≡ Some x → slice_get (xs ++ ys) k ≡ Some x
  front_at [] ys k x is = absurd (none-some x is)
  front_at (z ∷ xs) ys zero x is = is
  front_at (z ∷ xs) ys (suc k) x is = front_at xs ys k x is

  pub last_at : (xs : List X) (x : X) → slice_get (xs ++ x ∷ []) (length xs) ≡ Some x
  last_at [] x = refl
  last_at (z ∷ xs) x = last_at xs x

  pub same_at : (xs : List X) (y : X) (n : ℕ) (x : X) → slice_get (xs ++ y ∷ []) n ≡ Some x → (slice_get xs n ≡ Some x) ⊎ ((n ≡ length xs) × (x ≡ y))
  same_at [] y zero x is = let same : x ≡ y = cc in inr (refl, same)
  same_at [] y (suc n) x is = absurd (none-some x is)
  same_at (z ∷ xs) y zero x is = inl is
  same_at (z ∷ xs) y (suc n) x is = one_on (same_at xs y n x is)
    where
      one_on : (slice_get xs n ≡ Some x) ⊎ ((n ≡ length xs) × (x ≡ y)) → (slice_get xs n ≡ Some x) ⊎ ((suc n ≡ suc (length xs)) × (x ≡ y))
      one_on (inl h) = inl h
      one_on (inr h) = inr (ap suc h.0, h.1)

  -- what is true of all pairs in order
  module _ (R : X → X → Type 0) where
    pub no_pairs : AllPairs R []
    no_pairs i j d lt past = absurd (omega (arith, past))

    pub first_before : (x : X) (xs : List X) → AllPairs R (x ∷ xs) → (y : X) → Contains xs y → R x y
    first_before x xs h y c = let lt = c.1 in subst (R x) c.2 (h 0 (suc c.0) y (omega arith) (omega (arith, lt)))

    pub later : (x : X) (xs : List X) → AllPairs R (x ∷ xs) → AllPairs R xs
    later x xs h i j d lt within = h (suc i) (suc j) d (omega (arith, lt)) (omega (arith, within))

    pub pairs_push : (xs : List X) (y : X) → AllPairs R xs → ((x : X) → Contains xs x → R x y) → AllPairs R (xs ++ y ∷ [])
    pairs_push xs y h all = all_pairs_push R xs y h (λ k d within. all (get_or xs k d) (Contains-get_or xs k d within))

    pub pair_at : (xs : List X) → AllPairs R xs → (n m : ℕ) (x y : X) → slice_get xs n ≡ Some x → slice_get xs m ≡ Some y → n < m → R x y
    pair_at xs h n m x y a b lt = subst (λ z. R z y) (get_or_from_slice_get xs n x x a) (subst (R (get_or xs n x)) (get_or_from_slice_get xs m y x b) (h n m x lt (slice_get_within xs m y b)))

  -- nothing stands twice
  abbrev pub Distinct : List X → Type 0
  Distinct = AllPairs (λ x y. x ≡ y → ⊥)

  pub distinct_push : (xs : List X) (y : X) → Distinct xs → (Contains xs y → ⊥) → Distinct (xs ++ y ∷ [])
  distinct_push xs y h fresh = pairs_push (λ x z. x ≡ z → ⊥) xs y h (λ x c e. fresh (subst (Contains xs) e c))

module _ {X Y : Type 0} (g : X → Y) where
  pub map_there : (xs : List X) (x : X) → Contains xs x → Contains (map g xs) (g x)
  map_there [] x h = absurd (nothing_there x h)
  map_there (z ∷ xs) x h = elim (first_or_rest z xs x h) [
    | inl e ↦ subst (λ y. Contains (g z ∷ map g xs) (g y)) e (here (g z) (map g xs))
    | inr rest ↦ there (g z) (map g xs) (g x) (map_there xs x rest)
  ]

  pub map_back : (xs : List X) (y : Y) → Contains (map g xs) y → (x : X) × Contains xs x × (g x ≡ y)
  map_back [] y h = absurd (nothing_there y h)
  map_back (z ∷ xs) y h = elim (first_or_rest (g z) (map g xs) y h) [
    | inl e ↦ (z, here z xs, e)
    | inr rest ↦ let r = map_back xs y rest in (r.0, there z xs r.0 r.1, r.2)
  ]
