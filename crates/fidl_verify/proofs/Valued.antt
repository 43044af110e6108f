-- A search by halving among the ranges of a strict enum.
use Rattle.std.proofs.Common.{◌≡◌, ℕ, zero, suc, ◌+◌, ◌<◌, ◌≤◌, ℤ, List, sym, subst, ◌∙◌, arith, inl, inr}
use Rattle.std.specs.Prelude.{Bool, true, false, IsTrue, IsFalse, ◌<ℤ◌, ◌≤ℤ◌, Contains}
use Rattle.std.specs.Cmp.{int_ranks}
use Rattle.std.specs.Ordering.{int_cmp, MatchOrdering}
use Rattle.std.specs.declared.cmp.Ordering.{Ordering}
use Rattle.std.specs.declared.cmp.Ordering.TheVariants.{Less, Equal, Greater}
use Rattle.std.proofs.lemmas.Bool.{cases_lt}
use Rattle.std.proofs.lemmas.Int.{ints}
use Rattle.std.proofs.lemmas.List.Elements.{Contains-append_left, Contains-append_right, Contains-append_cases}
use Rattle.fidl_wire.specs.Term.{Kind}
use Rattle.fidl_table_format.specs.declared.record.Header.{Header}
use Rattle.fidl_table_format.specs.declared.record.Entry.{Entry}
use Rattle.fidl_table_format.specs.Section.{header_of, range_at}
use Rattle.fidl_table_format.specs.Terms.{underlying, value_number, span, values_from}
use Rattle.fidl_table_format.specs.Entry.{lowest_value, highest_value, IsEnumRange}
use Rattle.fidl_table_format.proofs.Spans.{span_has}
use Rattle.fidl_verify.proofs.Enumerated.{rising}

-- what isn't less is at least as great
pub not_less : (a b : ℤ) → (a <ℤ b → ⊥) → b ≤ℤ a
not_less a b p = by (int_cmp a b) (int_ranks a b)
  where
    by : (r : Ordering) → MatchOrdering r (a <ℤ b) (a ≡ b) (b <ℤ a) → b ≤ℤ a
    by Less h = absurd (p h)
    by Equal h = subst (λ x. x ≤ℤ a) h (omega (arith, ints))
    by Greater h = omega (arith, ints)

-- ---- the values as a list

module _ (t : List ℕ) (h : Header) (kind : Kind) (z : ℤ) where
  -- the range in this record has the number
  abbrev Holds : ℕ → Type 0
  Holds i = (value_number kind (range_at t h i).lowest ≤ℤ z) × (z ≤ℤ value_number kind (range_at t h i).highest)

  abbrev range : ℕ → List ℤ
  range i = span (value_number kind (range_at t h i).lowest) (value_number kind (range_at t h i).highest)

  pub values_have : (first n k : ℕ) → k < n → Holds (first + k) → Contains (values_from t h kind first n) z
  values_have first zero k lt holds = absurd (omega (arith, lt))
  values_have first (suc n) zero lt holds =
      let here : first + 0 ≡ first = omega arith in
      let both = subst Holds here holds in
      Contains-append_left (range first) (values_from t h kind (suc first) n) z ((span_has (value_number kind (range_at t h first).lowest) (value_number kind (range_at t h first).highest) z).1 both)
  values_have first (suc n) (suc k) lt holds =
      let there : first + suc k ≡ suc first + k = omega arith in
      Contains-append_right (range first) (values_from t h kind (suc first) n) z (values_have (suc first) n k (omega (arith, lt)) (subst Holds there holds))

  pub values_only : (first n : ℕ) → Contains (values_from t h kind first n) z → (k : ℕ) × (k < n) × Holds (first + k)
  values_only first zero y = absurd (omega (arith, y.1))
  values_only first (suc n) y =
      elim (Contains-append_cases (range first) (values_from t h kind (suc first) n) z y) [
        | inl own ↦
            let here : first ≡ first + 0 = omega arith in
            (0, omega arith, subst Holds here ((span_has (value_number kind (range_at t h first).lowest) (value_number kind (range_at t h first).highest) z).0 own))
        | inr later ↦
            let rest = values_only (suc first) n later in
            let there : suc first + rest.0 ≡ first + suc rest.0 = omega arith in
            (suc rest.0, omega (arith, rest.1), subst Holds there rest.2)
      ]

module _ (t : List ℕ) (e : Entry) (z : ℤ) where
  abbrev low : ℕ → ℤ
  low k = lowest_value t (header_of t) e k

  abbrev high : ℕ → ℤ
  high k = highest_value t (header_of t) e k

  abbrev Has : Type 0
  Has = Contains (values_from t (header_of t) (underlying e) e.first e.count) z

  pub has : (k : ℕ) → k < e.count → low k ≤ℤ z → z ≤ℤ high k → Has
  has k lt from to = values_have t (header_of t) (underlying e) z e.first e.count k lt (from, to)

  -- the ranges before a place are less, and those from there on greater: none has the number
  pub has_none : (at : ℕ) → ((k : ℕ) → k < at → high k <ℤ z) → ((k : ℕ) → at ≤ k → k < e.count → z <ℤ low k) → Has → ⊥
  has_none at less more y =
      let of = values_only t (header_of t) (underlying e) z e.first e.count y in
      elim (cases_lt of.0 at) [
        | inl l ↦ let before = less of.0 l in let to = of.2.1 in omega (arith, ints)
        | inr g ↦ let behind = more of.0 (omega (arith, g)) of.1 in let from = of.2.0 in omega (arith, ints)
      ]

  module _ (ranges : (k : ℕ) → k < e.count → IsEnumRange t (header_of t) e k) where
    rise : (i j : ℕ) → i < j → j < e.count → high i <ℤ low j
    rise = rising low high e.count (λ k p. (ranges k p).order) (λ k p. (ranges k (omega (arith, p))).rises p)

    -- what is up to a range that is less is less, and what is from one on that is greater is greater
    pub less_before : (j : ℕ) → j < e.count → high j <ℤ z → (k : ℕ) → k < j + 1 → high k <ℤ z
    less_before j within l k lt = elim (cases_lt k j) [
      | inl before ↦ let next = rise k j before within in let own = (ranges j within).order in omega (arith, ints)
      | inr from ↦ let is : j ≡ k = omega (arith, from, lt) in subst (λ i. high i <ℤ z) is l
    ]

    pub more_behind : (j : ℕ) → j < e.count → z <ℤ low j → (k : ℕ) → j ≤ k → k < e.count → z <ℤ low k
    more_behind j within m k le lt = elim (cases_lt j k) [
      | inl behind ↦ let next = rise j k behind lt in let own = (ranges j within).order in omega (arith, ints)
      | inr from ↦ let is : j ≡ k = omega (arith, from, le) in subst (λ i. z <ℤ low i) is m
    ]

-- what a probe says, of an end of the range at a place and the number that is searched
pub less_at : (k u : Kind) (v w n : ℕ) → k ≡ u → v ≡ w → value_number k v <ℤ value_number k n → value_number u w <ℤ value_number u n
less_at k u v w n same is l = subst (λ (j : Kind). value_number j w <ℤ value_number j n) same (subst (λ x. value_number k x <ℤ value_number k n) is l)

pub more_at : (k u : Kind) (v w n : ℕ) → k ≡ u → v ≡ w → value_number k n <ℤ value_number k v → value_number u n <ℤ value_number u w
more_at k u v w n same is l = subst (λ (j : Kind). value_number j n <ℤ value_number j w) same (subst (λ x. value_number k n <ℤ value_number k x) is l)

apart : true ≡ false → ⊥
apart e = cc

pub clash : (b : Bool) → IsTrue b → IsFalse b → ⊥
clash b is other = apart (sym is ∙ other)
