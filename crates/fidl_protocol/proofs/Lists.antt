-- What stands in lists that are joined, paired, or in another order.
use Rattle.std.proofs.Common.{◌≡◌, ◌<◌, ◌+◌, ◌⊎◌, ℕ, List, [], ◌∷◌, ◌++◌, length, get_or, map, take, drop, inl, inr, refl, ap, sym, subst, ◌∙◌, arith}
use Rattle.std.specs.Prelude.{flat_map}
use Rattle.std.specs.List.{Contains, AllPairs, AllZip, swap}
use Rattle.std.specs.List.Sorted.{IsPermutation}
use Rattle.std.proofs.lemmas.Bool.{cases_lt, cases_eq}
use Rattle.std.proofs.lemmas.List.{get_or_default, get_or-take, length-take, take-append-drop, take_more}
use Rattle.std.proofs.lemmas.List.Edits.{length-swap, swapped_from_swap}
use Rattle.std.proofs.lemmas.List.Elements.{Contains-get_or, Contains-append_cases, Contains-append_left, Contains-append_right}
use Rattle.std.proofs.lemmas.List.Kept.{AllPairs-cons}
use Rattle.std.proofs.lemmas.List.Sorted.{IsPermutation-keeps}
use Rattle.fidl_composition.proofs.Lists.{map_there, here, there, nothing_there, first_or_rest, first_before, later, no_pairs, Distinct}

-- what the elements of a list give, one of them gives
pub flat_back : {X Y : Type 0} (g : X → List Y) (xs : List X) (y : Y) → Contains (flat_map g xs) y → (x : X) × Contains xs x × Contains (g x) y
flat_back g [] y h = absurd (nothing_there y h)
flat_back g (x ∷ xs) y h = elim (Contains-append_cases (g x) (flat_map g xs) y h) [
  | inl k ↦ (x, here x xs, k)
  | inr k ↦ let r = flat_back g xs y k in (r.0, there x xs r.0 r.1, r.2)
]

-- and what one of them gives, they give
pub flat_there : {X Y : Type 0} (g : X → List Y) (xs : List X) (x : X) (y : Y) → Contains xs x → Contains (g x) y → Contains (flat_map g xs) y
flat_there g [] x y h k = absurd (nothing_there x h)
flat_there g (z ∷ xs) x y h k = elim (first_or_rest z xs x h) [
  | inl e ↦ Contains-append_left (g z) (flat_map g xs) y (subst (λ w. Contains (g w) y) (sym e) k)
  | inr rest ↦ Contains-append_right (g z) (flat_map g xs) y (flat_there g xs x y rest k)
]

-- Lists that are paired.
module _ {A B : Type 0} (R : A → B → Type 0) where
  pub zip_left : (xs : List A) (ys : List B) (x : A) → AllZip R xs ys → Contains xs x → (y : B) × Contains ys y × R x y
  zip_left [] ys x h c = absurd (nothing_there x c)
  zip_left (w ∷ ws) [] x h c = absurd h
  zip_left (w ∷ ws) (z ∷ zs) x h c = elim (first_or_rest w ws x c) [
    | inl e ↦ (z, here z zs, subst (λ v. R v z) e h.0)
    | inr k ↦ let r = zip_left ws zs x h.1 k in (r.0, there z zs r.0 r.1, r.2)
  ]

  pub zip_right : (xs : List A) (ys : List B) (y : B) → AllZip R xs ys → Contains ys y → (x : A) × Contains xs x × R x y
  zip_right [] [] y h c = absurd (nothing_there y c)
  zip_right [] (z ∷ zs) y h c = absurd h
  zip_right (w ∷ ws) [] y h c = absurd h
  zip_right (w ∷ ws) (z ∷ zs) y h c = elim (first_or_rest z zs y c) [
    | inl e ↦ (w, here w ws, subst (R w) e h.0)
    | inr k ↦ let r = zip_right ws zs y h.1 k in (r.0, there w ws r.0 r.1, r.2)
  ]

  zip_push : (xs : List A) (ys : List B) (x : A) (y : B) → AllZip R xs ys → R x y → AllZip R (xs ++ x ∷ []) (ys ++ y ∷ [])
  zip_push [] [] x y h r = (r, h)
  zip_push [] (z ∷ zs) x y h r = absurd h
  zip_push (w ∷ ws) [] x y h r = absurd h
  zip_push (w ∷ ws) (z ∷ zs) x y h r = (h.0, zip_push ws zs x y h.1 r)

  -- one pair more
  pub zip_further : (xs : List A) (i : ℕ) (d : A) (ys : List B) (y : B) → i < length xs → AllZip R (take i xs) ys → R (get_or xs i d) y → AllZip R (take (i + 1) xs) (ys ++ y ∷ [])
  zip_further xs i d ys y lt h r = subst (λ l. AllZip R l (ys ++ y ∷ [])) (sym (take_more xs i d lt)) (zip_push (take i xs) ys (get_or xs i d) y h r)

  pub zip_length : (xs : List A) (ys : List B) → AllZip R xs ys → length xs ≡ length ys
  zip_length [] [] h = refl
  zip_length [] (z ∷ zs) h = absurd h
  zip_length (w ∷ ws) [] h = absurd h
  zip_length (w ∷ ws) (z ∷ zs) h = let rest = zip_length ws zs h.1 in omega (arith, rest)

  -- what is the same of both of each pair
  pub zip_map : {K : Type 0} (f : A → K) (g : B → K) → ((x : A) (y : B) → R x y → f x ≡ g y) → (xs : List A) (ys : List B) → AllZip R xs ys → map f xs ≡ map g ys
  zip_map f g same [] [] h = refl
  zip_map f g same [] (z ∷ zs) h = absurd h
  zip_map f g same (w ∷ ws) [] h = absurd h
  zip_map f g same (w ∷ ws) (z ∷ zs) h = ap (λ k. k ∷ map f ws) (same w z h.0) ∙ ap (λ l. g z ∷ l) (zip_map f g same ws zs h.1)

-- Pairs in order.
module _ {X : Type 0} (R : X → X → Type 0) where
  pub pairs_cons : (x : X) (xs : List X) → ((y : X) → Contains xs y → R x y) → AllPairs R xs → AllPairs R (x ∷ xs)
  pairs_cons x xs all h = AllPairs-cons R x xs (λ k d lt. all (get_or xs k d) (Contains-get_or xs k d lt)) h

  pub pairs_append : (xs ys : List X) → AllPairs R xs → AllPairs R ys → ((x y : X) → Contains xs x → Contains ys y → R x y) → AllPairs R (xs ++ ys)
  pairs_append [] ys h k all = k
  pairs_append (x ∷ xs) ys h k all =
      pairs_cons x (xs ++ ys)
      (λ y c. elim (Contains-append_cases xs ys y c) [ inl l ↦ first_before R x xs h y l | inr r ↦ all x y (here x xs) r ])
      (pairs_append xs ys (later R x xs h) k (λ a b c d. all a b (there x xs a c) d))

  -- two elements of a list are the same or one stands before the other
  pub pair_cases : (xs : List X) → AllPairs R xs → (x y : X) → Contains xs x → Contains xs y → (x ≡ y) ⊎ (R x y ⊎ R y x)
  pair_cases [] h x y c d = absurd (nothing_there x c)
  pair_cases (z ∷ xs) h x y c d = elim (first_or_rest z xs x c) [
    | inl e ↦ elim (first_or_rest z xs y d) [
      | inl f ↦ inl (sym e ∙ f)
      | inr f ↦ inr (inl (subst (λ w. R w y) e (first_before R z xs h y f)))
    ]
    | inr e ↦ elim (first_or_rest z xs y d) [
      | inl f ↦ inr (inr (subst (λ w. R w x) f (first_before R z xs h x e)))
      | inr f ↦ pair_cases xs (later R z xs h) x y e f
    ]
  ]

-- pairs by what they give
module _ {X K : Type 0} (f : X → K) (R : K → K → Type 0) where
  pub pairs_by_map : (xs : List X) → AllPairs R (map f xs) → AllPairs (λ x y. R (f x) (f y)) xs
  pairs_by_map [] h = no_pairs (λ x y. R (f x) (f y))
  pairs_by_map (x ∷ xs) h = pairs_cons (λ y z. R (f y) (f z)) x xs (λ y c. first_before R (f x) (map f xs) h (f y) (map_there f xs y c)) (pairs_by_map xs (later R (f x) (map f xs) h))

-- a relation of pairs that follows from another
pub pairs_weaker : {X : Type 0} (R S : X → X → Type 0) → ((x y : X) → R x y → S x y) → (xs : List X) → AllPairs R xs → AllPairs S xs
pairs_weaker R S weaker xs h i j d lt within = weaker (get_or xs i d) (get_or xs j d) (h i j d lt within)

-- what lists of different things give is distinct, where each gives distinct things and no two the same
module _ {N X : Type 0} (g : N → List X) (each : (n : N) → Distinct (g n)) (apart : (n k : N) (x : X) → Contains (g n) x → Contains (g k) x → n ≡ k) where
  pub distinct_flat : (ns : List N) → Distinct ns → Distinct (flat_map g ns)
  distinct_flat [] h = no_pairs (λ x y. x ≡ y → ⊥)
  distinct_flat (n ∷ ns) h = pairs_append (λ x y. x ≡ y → ⊥) (g n) (flat_map g ns) (each n) (distinct_flat ns (later (λ x y. x ≡ y → ⊥) n ns h)) differ
    where
      differ : (x y : X) → Contains (g n) x → Contains (flat_map g ns) y → x ≡ y → ⊥
      differ x y c d e =
          let k = flat_back g ns y d in
          first_before (λ a b. a ≡ b → ⊥) n ns h k.0 k.1 (apart n k.0 x c (subst (Contains (g k.0)) (sym e) k.2))

-- the place from which a swap takes an element
IsFrom : (a b : ℕ) → (to from : ℕ) → Type 0
IsFrom a b i k = ((i ≡ a) × (k ≡ b)) ⊎ (((i ≡ b) × (k ≡ a)) ⊎ ((i ≡ a → ⊥) × (i ≡ b → ⊥) × (k ≡ i)))

one_to : (a b i j k l : ℕ) → IsFrom a b i k → IsFrom a b j l → k ≡ l → i ≡ j
unfolding IsFrom
one_to a b i j k l (inl p) (inl q) e = p.0 ∙ sym q.0
one_to a b i j k l (inl p) (inr (inl q)) e = p.0 ∙ sym q.1 ∙ sym e ∙ p.1 ∙ sym q.0
one_to a b i j k l (inl p) (inr (inr q)) e = absurd (q.1 (sym q.2 ∙ sym e ∙ p.1))
one_to a b i j k l (inr (inl p)) (inl q) e = p.0 ∙ sym q.1 ∙ sym e ∙ p.1 ∙ sym q.0
one_to a b i j k l (inr (inl p)) (inr (inl q)) e = p.0 ∙ sym q.0
one_to a b i j k l (inr (inl p)) (inr (inr q)) e = absurd (q.0 (sym q.2 ∙ sym e ∙ p.1))
one_to a b i j k l (inr (inr p)) (inl q) e = absurd (p.1 (sym p.2 ∙ e ∙ q.1))
one_to a b i j k l (inr (inr p)) (inr (inl q)) e = absurd (p.0 (sym p.2 ∙ e ∙ q.1))
one_to a b i j k l (inr (inr p)) (inr (inr q)) e = sym p.2 ∙ e ∙ q.2

-- Lists in another order.
module _ {X : Type 0} where
  -- different places have different elements
  AreApart : List X → Type 0
  AreApart xs = (i j : ℕ) (d : X) → i < length xs → j < length xs → (i ≡ j → ⊥) → get_or xs i d ≡ get_or xs j d → ⊥

  apart_of : (xs : List X) → Distinct xs → AreApart xs
  unfolding AreApart
  apart_of xs h i j d lt within differ same = elim (cases_lt i j) [
    | inl less ↦ h i j d less within same
    | inr le ↦ elim (cases_lt j i) [
      | inl less ↦ h j i d less lt (sym same)
      | inr ge ↦ differ (omega (arith, le, ge))
    ]
  ]

  of_apart : (xs : List X) → AreApart xs → Distinct xs
  unfolding AreApart
  of_apart xs h i j d lt within = h i j d (omega (arith, lt, within)) within (λ e. omega (arith, lt, e))

  module _ (xs : List X) (a b : ℕ) (la : a < length xs) (lb : b < length xs) (d : X) where
    from : (i : ℕ) → i < length xs → (k : ℕ) × (k < length xs) × (get_or (swap xs a b) i d ≡ get_or xs k d) × IsFrom a b i k
    unfolding IsFrom
    from i lt =
        let moves = swapped_from_swap xs (swap xs a b) a b d la lb refl in
        elim (cases_eq i a) [
          | inl e ↦ (b, lb, ap (λ n. get_or (swap xs a b) n d) e ∙ moves.0, inl (e, refl))
          | inr n ↦ elim (cases_eq i b) [
            | inl e ↦ (a, la, ap (λ n. get_or (swap xs a b) n d) e ∙ moves.1, inr (inl (e, refl)))
            | inr m ↦ (i, lt, moves.2 i n m, inr (inr (n, m, refl)))
          ]
        ]

  swap_apart : (xs : List X) (a b : ℕ) → a < length xs → b < length xs → AreApart xs → AreApart (swap xs a b)
  unfolding AreApart
  swap_apart xs a b la lb h i j d lt within differ same =
      let long = length-swap xs a b in
      let one = from xs a b la lb d i (omega (arith, lt, long)) in
      let two = from xs a b la lb d j (omega (arith, within, long)) in
      h one.0 two.0 d one.1 two.1 (λ e. differ (one_to a b i j one.0 two.0 one.3 two.3 e)) (sym one.2 ∙ same ∙ two.2)

  pub distinct_permutation : (xs ys : List X) → IsPermutation xs ys → Distinct xs → Distinct ys
  distinct_permutation xs ys p h = IsPermutation-keeps xs Distinct h (λ l i j li lj k. of_apart (swap l i j) (swap_apart l i j li lj (apart_of l k))) ys p

-- An element at a place, and those before it.
module _ {X : Type 0} where
  pub item_there : (xs : List X) (i : ℕ) (x : X) → i < length xs → x ≡ get_or xs i x → Contains xs x
  item_there xs i x lt is = (i, lt, sym is)

  pub front_there : (xs : List X) (i : ℕ) (y : X) → Contains (take i xs) y → Contains xs y
  front_there xs i y c = subst (λ l. Contains l y) (take-append-drop i xs) (Contains-append_left (take i xs) (drop i xs) y c)

  pub front_before : (R : X → X → Type 0) (xs : List X) (i : ℕ) (x : X) → i < length xs → x ≡ get_or xs i x → AllPairs R xs → (y : X) → Contains (take i xs) y → R y x
  front_before R xs i x lt is h y c =
      let below : c.0 < i = omega (arith, c.1, length-take i xs) in
      subst (λ z. R z x) (sym (get_or-take i xs c.0 y below) ∙ c.2) (subst (R (get_or xs c.0 y)) (get_or_default xs i y x lt ∙ sym is) (h c.0 i y below lt))
