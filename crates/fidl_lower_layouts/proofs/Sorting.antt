-- What a sort leaves: elements that differ rise.
use Rattle.std.proofs.Common.{◌≡◌, ◌≢◌, ◌∙◌, ℕ, suc, ◌+◌, ◌<◌, ◌≤◌, ℤ, ◌<ℤ◌, Bool, true, false, true≢false, List, [], ◌∷◌, length, map, get_or, refl, sym, ap, subst, inl, inr, arith}
use Rattle.std.specs.List.{AllPairs}
use Rattle.std.specs.List.Sorted.{IsPermutation, IsNonDecreasingBy, IsNonDecreasing, IsSorted}
use Rattle.std.specs.Bool.{Decides}
use Rattle.std.specs.Ordering.{int_cmp, int_eq, is_lt, MatchOrdering}
use Rattle.std.specs.declared.cmp.Ordering.{Ordering}
use Rattle.std.specs.declared.cmp.Ordering.TheVariants.{Less, Equal, Greater}
use Rattle.std.specs.Prelude.{◌==◌}
use Rattle.std.specs.Int.Signed.{le_z, <ℤ_irrefl}
use Rattle.std.specs.Cmp.{int_ranks, int_cmp_total}
use Rattle.std.proofs.Math.ListN.{get_or-map, length-map}
use Rattle.std.proofs.lemmas.Bool.{cases_lt}
use Rattle.std.proofs.lemmas.Bool.Decides.{Decides-eqb, Decides-int_eq}
use Rattle.std.proofs.lemmas.Int.{ints}
use Rattle.std.proofs.lemmas.List.{get_or_default}
use Rattle.std.proofs.lemmas.List.Sorted.{IsPermutation-sym, IsPermutation-map, IsPermutation-trans, sorted_far, ranks_by}
use Rattle.std.proofs.lemmas.Map.Keys.{IsDistinct-IsPermutation}
use Rattle.std.proofs.lemmas.Map.Made.{AllPairs-from_IsDistinct, IsDistinct-from_AllPairs}
use Rattle.fidl_ir.specs.declared.term.Row.{Row}
use Rattle.fidl_ir.specs.Terms.{rows_view}
use Rattle.fidl_lower_layouts.specs.Members.{row_ordinals}
use Rattle.fidl_lower_layouts.proofs.Rising.{first_or_rest, first_pairs, more_pairs, no_pairs, pairs_weaker}

-- each element is before the next, and so before all after it
pub adjacent_rise : {X : Type 0} (before : X → X → Type 0) (chain : (x y z : X) → before x y → before y z → before x z) (xs : List X) → ((k : ℕ) (d : X) → k + 1 < length xs → before (get_or xs k d) (get_or xs (k + 1) d)) → AllPairs before xs
adjacent_rise before chain [] h = no_pairs before
adjacent_rise before chain (x ∷ []) h = more_pairs before x [] (λ t c. let lt = c.1 in absurd (omega (arith, lt))) (no_pairs before)
adjacent_rise before chain (x ∷ y ∷ xs) h =
    let rest = adjacent_rise before chain (y ∷ xs) (λ k d lt. let next : suc k + 1 ≡ suc (k + 1) = omega arith in subst (λ n. before (get_or (y ∷ xs) k d) (get_or (x ∷ y ∷ xs) n d)) next (h (suc k) d (omega (arith, lt)))) in
    more_pairs before x (y ∷ xs) (λ t c. elim (first_or_rest y xs t c) [
      | inl e ↦ subst (before x) e (h 0 x (omega arith))
      | inr later ↦ chain x y t (h 0 x (omega arith)) (first_pairs before y xs rest t later)
    ]) rest

-- Elements that differ still do where they are moved.
same_test : (b c : Bool) (P : Type 0) → Decides b P → Decides c P → b ≡ c
same_test true true P h k = refl
same_test false false P h k = refl
same_test true false P h k = absurd (true≢false (sym (k.1 (h.0 refl))))
same_test false true P h k = absurd (true≢false (sym (h.1 (k.0 refl))))

module _ {X : Type 0} (test : X → X → Bool) (decides : (x y : X) → Decides (test x y) (x ≡ y)) where
  flips : (x y : X) → test x y ≡ test y x
  flips x y = same_test (test x y) (test y x) (x ≡ y) (decides x y) ((λ e. sym ((decides y x).0 e)), λ e. (decides y x).1 (sym e))

  pub differ_moved : (xs ys : List X) → IsPermutation xs ys → AllPairs (λ x y. x ≢ y) ys → AllPairs (λ x y. x ≢ y) xs
  differ_moved xs ys moved h =
      AllPairs-from_IsDistinct decides xs (IsDistinct-IsPermutation test flips ys xs (IsPermutation-sym xs ys moved) (IsDistinct-from_AllPairs decides ys h))

-- Ordinals.

pub ordinals_are : (rows : List Row) → row_ordinals (rows_view rows) ≡ map (λ r. r.ordinal) rows
ordinals_are [] = refl
ordinals_are (r ∷ rows) = ap (λ l. r.ordinal ∷ l) (ordinals_are rows)

-- Keys.
module _ {X : Type 0} (key : X → ℕ) where
  key_at : (xs : List X) (i : ℕ) (d : ℕ) (e : X) → i < length xs → key (get_or xs i e) ≡ get_or (map key xs) i d
  key_at xs i d e lt = let long = length-map xs key in sym (get_or-map key xs i e) ∙ get_or_default (map key xs) i (key e) d (omega (arith, lt, long))

  pub keys_rise : (xs : List X) → AllPairs (λ (x y : X). key x < key y) xs → AllPairs (λ m n. m < n) (map key xs)
  keys_rise [] h = no_pairs (λ m n. m < n)
  keys_rise (x ∷ xs) h = λ i j d lt within.
      let long = length-map (x ∷ xs) key in
      let less = h i j x lt (omega (arith, within, long)) in
      let one = key_at (x ∷ xs) i d x (omega (arith, lt, within, long)) in
      let other = key_at (x ∷ xs) j d x (omega (arith, within, long)) in
      omega (arith, less, one, other)

  pub rise_by_keys : (xs : List X) → AllPairs (λ m n. m < n) (map key xs) → AllPairs (λ (x y : X). key x < key y) xs
  rise_by_keys xs h i j d lt within =
      let long = length-map xs key in
      let less = h i j (key d) lt (omega (arith, within, long)) in
      let one : get_or (map key xs) i (key d) ≡ key (get_or xs i d) = get_or-map key xs i d in
      let other : get_or (map key xs) j (key d) ≡ key (get_or xs j d) = get_or-map key xs j d in
      omega (arith, less, one, other)

pub rows_rise : (rows : List Row) → ((k : ℕ) (d : Row) → k + 1 < length rows → (get_or rows k d).ordinal < (get_or rows (k + 1) d).ordinal) → AllPairs (λ m n. m < n) (row_ordinals (rows_view rows))
rows_rise rows h = subst (AllPairs (λ m n. m < n)) (sym (ordinals_are rows)) (keys_rise (λ (r : Row). r.ordinal) rows (adjacent_rise (λ (r s : Row). r.ordinal < s.ordinal) (λ q r s lt less. omega (arith, lt, less)) rows h))

pub rise_at : (rows : List Row) → AllPairs (λ m n. m < n) (row_ordinals (rows_view rows)) → (i j : ℕ) (d e : Row) → i < j → j < length rows → (get_or rows i d).ordinal < (get_or rows j e).ordinal
rise_at rows h i j d e lt within =
    let long = length-map rows (λ (x : Row). x.ordinal) in
    let is = subst (AllPairs (λ m n. m < n)) (ordinals_are rows) h i j d.ordinal lt (omega (arith, within, long)) in
    let one : get_or (map (λ (x : Row). x.ordinal) rows) i d.ordinal ≡ (get_or rows i d).ordinal = get_or-map (λ (x : Row). x.ordinal) rows i d in
    let other : get_or (map (λ (x : Row). x.ordinal) rows) j d.ordinal ≡ (get_or rows j e).ordinal = get_or-map (λ (x : Row). x.ordinal) rows j d ∙ ap (λ (x : Row). x.ordinal) (get_or_default rows j d e within) in
    omega (arith, is, one, other)

differ_rise : (xs : List ℕ) → IsNonDecreasing xs → AllPairs (λ m n. m ≢ n) xs → AllPairs (λ m n. m < n) xs
differ_rise xs sorted differ i j d lt within =
    let le = sorted i j d (omega (arith, lt)) within in
    let not = differ i j d lt within in
    strict (get_or xs i d) (get_or xs j d) le not
  where
    strict : (m n : ℕ) → m ≤ n → m ≢ n → m < n
    strict m n le not = elim (cases_lt m n) [ inl less ↦ less | inr more ↦ absurd (not (omega (arith, le, more))) ]

-- sorted rows whose ordinals have an order that rises, rise
pub sorted_rise : (rows sorted : List Row) (ns : List ℕ) → IsPermutation rows sorted → IsNonDecreasingBy (λ (r : Row). r.ordinal) sorted → IsPermutation (row_ordinals (rows_view rows)) ns → AllPairs (λ m n. m < n) ns → AllPairs (λ m n. m < n) (row_ordinals (rows_view sorted))
sorted_rise rows sorted ns moved up other rise =
    let of : Row → ℕ = λ r. r.ordinal in
    let back : IsPermutation (map of sorted) ns = IsPermutation-trans (map of sorted) (map of rows) ns (IsPermutation-map of sorted rows (IsPermutation-sym rows sorted moved)) (subst (λ l. IsPermutation l ns) (ordinals_are rows) other) in
    let differ = differ_moved (λ m n. m == n) Decides-eqb (map of sorted) ns back (pairs_weaker (λ m n. m < n) (λ m n. m ≢ n) (λ m n lt e. omega (arith, lt, e)) ns rise) in
    subst (AllPairs (λ m n. m < n)) (sym (ordinals_are sorted)) (differ_rise (map of sorted) (keys sorted up) differ)
  where
    keys : (sorted : List Row) → IsNonDecreasingBy (λ (r : Row). r.ordinal) sorted → IsNonDecreasing (map (λ (r : Row). r.ordinal) sorted)
    keys [] up = λ i j d le within. absurd (omega (arith, within))
    keys (r ∷ rows) up = λ i j d le within.
        let long = length-map (r ∷ rows) (λ (x : Row). x.ordinal) in
        let is = up i j r le (omega (arith, within, long)) in
        let all : List ℕ = map (λ (x : Row). x.ordinal) (r ∷ rows) in
        let one : get_or all i d ≡ (get_or (r ∷ rows) i r).ordinal = get_or_default all i d r.ordinal (omega (arith, le, within)) ∙ get_or-map (λ (x : Row). x.ordinal) (r ∷ rows) i r in
        let last : get_or all j d ≡ (get_or (r ∷ rows) j r).ordinal = get_or_default all j d r.ordinal within ∙ get_or-map (λ (x : Row). x.ordinal) (r ∷ rows) j r in
        omega (arith, is, one, last)

-- Numbers.

pub above_not : (y z : ℤ) → le_z y z ≡ false → z <ℤ y
above_not y z h = omega (arith, ints, h)

pub below_not : (y z : ℤ) → y <ℤ z → le_z z y ≡ true → ⊥
below_not y z lt h = omega (arith, ints, lt, h)

pub sorted_numbers : (zs sorted others : List ℤ) → IsPermutation zs sorted → IsSorted int_cmp sorted → IsPermutation zs others → AllPairs (λ y z. y <ℤ z) others → AllPairs (λ y z. y <ℤ z) sorted
sorted_numbers zs sorted others moved up other rise i j d lt within =
    let back : IsPermutation sorted others = IsPermutation-trans sorted zs others (IsPermutation-sym zs sorted moved) other in
    let differ = differ_moved int_eq Decides-int_eq sorted others back (pairs_weaker (λ y z. y <ℤ z) (λ y z. y ≢ z) (λ y z less e. <ℤ_irrefl (subst (λ (x : ℤ). x <ℤ z) e less)) others rise) in
    ranked (get_or sorted i d) (get_or sorted j d) (sorted_far (λ y z. is_lt (int_cmp y z)) (ranks_by int_cmp_total (λ (z : ℤ). z)) sorted up i j d (omega (arith, lt)) within) (differ i j d lt within)
  where
    by : (y z : ℤ) (o : Ordering) → MatchOrdering o (z <ℤ y) (z ≡ y) (y <ℤ z) → is_lt o ≡ false → y ≢ z → y <ℤ z
    by y z Less h low not = absurd (true≢false low)
    by y z Equal h low not = absurd (not (sym h))
    by y z Greater h low not = h

    ranked : (y z : ℤ) → is_lt (int_cmp z y) ≡ false → y ≢ z → y <ℤ z
    ranked y z low not = by y z (int_cmp z y) (int_ranks z y) low not
