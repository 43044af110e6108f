-- Lists that rise: lists of the same elements that rise are one, and elements that differ have a
-- list that rises.
use Rattle.std.proofs.Common.{◌≡◌, ◌∙◌, ℕ, zero, suc, ◌<◌, ◌⊎◌, inl, inr, List, [], ◌∷◌, map, length, set, get_or, swap, refl, sym, ap, subst, arith}
use Rattle.std.specs.List.{Contains, AllPairs, AllZip}
use Rattle.std.specs.List.Sorted.{IsPermutation}
use Rattle.std.proofs.Math.ListN.{get_or-map, length-map}
use Rattle.std.proofs.lemmas.List.{map-set}
use Rattle.std.proofs.lemmas.List.Sorted.{IsPermutation-refl, IsPermutation-sym, IsPermutation-cons, IsPermutation-trans, IsPermutation-middle, IsPermutation-swap, IsPermutation-map, IsPermutation-keeps, Contains-permutation}

-- What stands in lists.
module _ {X : Type 0} where
  pub here : (x : X) (xs : List X) → Contains (x ∷ xs) x
  here x xs = (0, omega arith, refl)

  pub there : (x : X) (xs : List X) (y : X) → Contains xs y → Contains (x ∷ xs) y
  there x xs y h = let lt = h.1 in (suc h.0, omega arith, h.2)

  pub nothing_there : (y : X) → Contains [] y → ⊥
  nothing_there y h = let lt = h.1 in omega arith

  pub first_or_rest : (x : X) (xs : List X) (y : X) → Contains (x ∷ xs) y → (x ≡ y) ⊎ Contains xs y
  first_or_rest x xs y (zero, lt, e) = inl e
  first_or_rest x xs y (suc k, lt, e) = inr (k, omega (arith, lt), e)

  module _ (R : X → X → Type 0) where
    -- the first element, and the rest
    pub first_pairs : (x : X) (xs : List X) → AllPairs R (x ∷ xs) → (t : X) → Contains xs t → R x t
    first_pairs x xs h t c = let lt = c.1 in subst (R x) c.2 (h 0 (suc c.0) t (omega arith) (omega (arith, lt)))

    pub later_pairs : (x : X) (xs : List X) → AllPairs R (x ∷ xs) → AllPairs R xs
    later_pairs x xs h i j d lt within = h (suc i) (suc j) d (omega (arith, lt)) (omega (arith, within))

    pub no_pairs : AllPairs R []
    no_pairs i j d lt within = absurd (omega (arith, within))

    pub more_pairs : (x : X) (xs : List X) → ((t : X) → Contains xs t → R x t) → AllPairs R xs → AllPairs R (x ∷ xs)
    more_pairs x xs first rest zero zero d lt within = absurd (omega (arith, lt))
    more_pairs x xs first rest zero (suc j) d lt within = first (get_or xs j d) (j, omega (arith, within), same xs j d (omega (arith, within)))
      where
        same : (xs : List X) (j : ℕ) (d : X) → j < length xs → get_or xs j (get_or xs j d) ≡ get_or xs j d
        same [] j d p = refl
        same (x ∷ xs) zero d p = refl
        same (x ∷ xs) (suc j) d p = same xs j d (omega (arith, p))
    more_pairs x xs first rest (suc i) zero d lt within = absurd (omega (arith, lt))
    more_pairs x xs first rest (suc i) (suc j) d lt within = rest i j d (omega (arith, lt)) (omega (arith, within))

-- one element, and two
pub single : {X : Type 0} (R : X → X → Type 0) (x : X) → AllPairs R (x ∷ [])
single R x = more_pairs R x [] (λ t c. absurd (nothing_there t c)) (no_pairs R)

pub two_pairs : {X : Type 0} (R : X → X → Type 0) (x y : X) → R x y → AllPairs R (x ∷ y ∷ [])
two_pairs R x y h = more_pairs R x (y ∷ []) (λ t c. elim (first_or_rest y [] t c) [ inl e ↦ subst (R x) e h | inr rest ↦ absurd (nothing_there t rest) ]) (single R y)

-- other pairs
pub pairs_weaker : {X : Type 0} (R S : X → X → Type 0) → ((x y : X) → R x y → S x y) → (xs : List X) → AllPairs R xs → AllPairs S xs
pairs_weaker R S weaker xs h i j d lt within = weaker (get_or xs i d) (get_or xs j d) (h i j d lt within)

-- An order: what is before what.
module _ {X : Type 0} (before : X → X → Type 0) (never : (x : X) → before x x → ⊥) (chain : (x y z : X) → before x y → before y z → before x z) where
  same_first : (x y : X) (xs ys : List X) → AllPairs before (x ∷ xs) → AllPairs before (y ∷ ys) → Contains (y ∷ ys) x → Contains (x ∷ xs) y → x ≡ y
  same_first x y xs ys h k one other = elim (first_or_rest y ys x one) [
    | inl e ↦ sym e
    | inr later ↦ elim (first_or_rest x xs y other) [
      | inl e ↦ e
      | inr also ↦ absurd (never x (chain x y x (first_pairs before x xs h y also) (first_pairs before y ys k x later)))
    ]
  ]

  rest_among : (x y : X) (xs ys : List X) → x ≡ y → AllPairs before (x ∷ xs) → ((t : X) → Contains (x ∷ xs) t → Contains (y ∷ ys) t) → (t : X) → Contains xs t → Contains ys t
  rest_among x y xs ys same h sub t c = elim (first_or_rest y ys t (sub t (there x xs t c))) [
    | inl e ↦ absurd (never x (subst (before x) (sym (same ∙ e)) (first_pairs before x xs h t c)))
    | inr later ↦ later
  ]

  -- lists that rise and have the same elements are one list
  pub one_rising : (xs ys : List X) → AllPairs before xs → AllPairs before ys → ((t : X) → Contains xs t → Contains ys t) → ((t : X) → Contains ys t → Contains xs t) → xs ≡ ys
  one_rising [] [] h k sub back = refl
  one_rising [] (y ∷ ys) h k sub back = absurd (nothing_there y (back y (here y ys)))
  one_rising (x ∷ xs) [] h k sub back = absurd (nothing_there x (sub x (here x xs)))
  one_rising (x ∷ xs) (y ∷ ys) h k sub back =
      let same = same_first x y xs ys h k (sub x (here x xs)) (back y (here y ys)) in
      let rest = one_rising xs ys (later_pairs before x xs h) (later_pairs before y ys k) (rest_among x y xs ys same h sub) (rest_among y x ys xs (sym same) k back) in
      λ i. same i ∷ rest i

  pub one_moved : (zs xs ys : List X) → IsPermutation zs xs → IsPermutation zs ys → AllPairs before xs → AllPairs before ys → xs ≡ ys
  one_moved zs xs ys p q h k =
      one_rising xs ys h k
      (λ t c. Contains-permutation zs ys t q (Contains-permutation xs zs t (IsPermutation-sym zs xs p) c))
      (λ t c. Contains-permutation zs xs t p (Contains-permutation ys zs t (IsPermutation-sym zs ys q) c))

  -- one of two comes first
  abbrev pub Ordered : X → X → Type 0
  Ordered x y = before x y ⊎ before y x

  -- a list that rises, with the elements of a list
  pub record Rising (xs : List X) : Type 0 where
    pub list : List X
    pub same : IsPermutation xs list
    pub rise : AllPairs before list

  placed : (x : X) (ys : List X) → AllPairs before ys → ((t : X) → Contains ys t → Ordered x t) → Rising (x ∷ ys)
  placed x [] h apart = record { list = x ∷ []; same = IsPermutation-refl (x ∷ []); rise = more_pairs before x [] (λ t c. absurd (nothing_there t c)) h }
  placed x (y ∷ ys) h apart = elim (apart y (here y ys)) [
    | inl first ↦ record {
      list = x ∷ y ∷ ys;
      same = IsPermutation-refl (x ∷ y ∷ ys);
      rise = more_pairs before x (y ∷ ys) (λ t c. elim (first_or_rest y ys t c) [ inl e ↦ subst (before x) e first | inr later ↦ chain x y t first (first_pairs before y ys h t later) ]) h;
    }
    | inr first ↦
        let r = placed x ys (later_pairs before y ys h) (λ t c. apart t (there y ys t c)) in
        record {
          list = y ∷ r.list;
          same = IsPermutation-trans (x ∷ y ∷ ys) (y ∷ x ∷ ys) (y ∷ r.list) (IsPermutation-sym (y ∷ x ∷ ys) (x ∷ y ∷ ys) (IsPermutation-middle (y ∷ []) x ys)) (IsPermutation-cons y (x ∷ ys) r.list r.same);
          rise = more_pairs before y r.list (λ t c. elim (first_or_rest x ys t (Contains-permutation r.list (x ∷ ys) t (IsPermutation-sym (x ∷ ys) r.list r.same) c)) [ inl e ↦ subst (before y) e first | inr later ↦ first_pairs before y ys h t later ]) r.rise;
        }
  ]

  pub rising : (xs : List X) → AllPairs Ordered xs → Rising xs
  rising [] h = record { list = []; same = IsPermutation-refl []; rise = no_pairs before }
  rising (x ∷ xs) h =
      let r = rising xs (later_pairs Ordered x xs h) in
      let s = placed x r.list r.rise (λ t c. first_pairs Ordered x xs h t (Contains-permutation r.list xs t (IsPermutation-sym xs r.list r.same) c)) in
      record { list = s.list; same = IsPermutation-trans (x ∷ xs) (x ∷ r.list) s.list (IsPermutation-cons x xs r.list r.same) s.same; rise = s.rise }

-- Lists whose elements belong together, one by one, where one of the lists is moved.
map_swap : {X Y : Type 0} (f : X → Y) (xs : List X) (i j : ℕ) → map f (swap xs i j) ≡ swap (map f xs) i j
map_swap f [] i j = refl
map_swap f (x ∷ xs) i j =
    map-set f _ j _ ∙ (λ z. set (map-set f (x ∷ xs) i (get_or (x ∷ xs) j x) z) j (sym (get_or-map f (x ∷ xs) i x) z))
    ∙ ap (λ y. set (set (map f (x ∷ xs)) i y) j (get_or (map f (x ∷ xs)) i (f x))) (sym (get_or-map f (x ∷ xs) j x))

module _ {A B : Type 0} (R : A → B → Type 0) where
  record Paired (xs : List A) (ys : List B) : Type 0 where
    pairs : List (A × B)
    of_first : map (λ p. p.0) pairs ≡ xs
    of_second : map (λ p. p.1) pairs ≡ ys
    hold : (p : A × B) → Contains pairs p → R p.0 p.1

  paired : (xs : List A) (ys : List B) → AllZip R xs ys → Paired xs ys
  paired [] [] h = record { pairs = []; of_first = refl; of_second = refl; hold = λ p c. absurd (nothing_there p c) }
  paired [] (y ∷ ys) h = absurd h
  paired (x ∷ xs) [] h = absurd h
  paired (x ∷ xs) (y ∷ ys) h =
      let rest = paired xs ys h.1 in
      let one : A × B = (x, y) in
      record {
        pairs = one ∷ rest.pairs;
        of_first = ap (λ l. x ∷ l) rest.of_first;
        of_second = ap (λ l. y ∷ l) rest.of_second;
        hold = λ p c. elim (first_or_rest one rest.pairs p c) [ inl e ↦ subst (λ (q : A × B). R q.0 q.1) e h.0 | inr later ↦ rest.hold p later ];
      }

  zipped : (ps : List (A × B)) → ((p : A × B) → Contains ps p → R p.0 p.1) → AllZip R (map (λ p. p.0) ps) (map (λ p. p.1) ps)
  zipped [] hold = tt
  zipped (p ∷ ps) hold = (hold p (here p ps), zipped ps (λ q c. hold q (there p ps q c)))

  -- pairs in the order of their second parts
  record Following (ps : List (A × B)) (ys : List B) : Type 0 where
    moved : List (A × B)
    same : IsPermutation ps moved
    are : map (λ p. p.1) moved ≡ ys

  following : (ps : List (A × B)) (ys : List B) → IsPermutation (map (λ p. p.1) ps) ys → Following ps ys
  following ps = IsPermutation-keeps (map (λ p. p.1) ps) (Following ps) (record { moved = ps; same = IsPermutation-refl ps; are = refl }) (λ l i j p q f.
      let long : length f.moved ≡ length l = sym (length-map f.moved (λ p. p.1)) ∙ ap length f.are in
      record {
        moved = swap f.moved i j;
        same = IsPermutation-trans ps f.moved (swap f.moved i j) f.same (IsPermutation-swap f.moved (swap f.moved i j) i j (omega (arith, p, long)) (omega (arith, q, long)) refl);
        are = map_swap (λ p. p.1) f.moved i j ∙ ap (λ l. swap l i j) f.are;
      })

  -- the other list is moved with it
  pub record MovedWith (xs : List A) (ys : List B) : Type 0 where
    pub list : List A
    pub same : IsPermutation xs list
    pub zip : AllZip R list ys

  pub moved_with : (xs : List A) (ys zs : List B) → AllZip R xs ys → IsPermutation ys zs → MovedWith xs zs
  moved_with xs ys zs h moved =
      let p = paired xs ys h in
      let f = following p.pairs zs (subst (λ l. IsPermutation l zs) (sym p.of_second) moved) in
      record {
        list = map (λ p. p.0) f.moved;
        same = subst (λ l. IsPermutation l (map (λ p. p.0) f.moved)) p.of_first (IsPermutation-map (λ p. p.0) p.pairs f.moved f.same);
        zip = subst (AllZip R (map (λ p. p.0) f.moved)) f.are (zipped f.moved (λ q c. p.hold q (Contains-permutation f.moved p.pairs q (IsPermutation-sym p.pairs f.moved f.same) c)));
      }
