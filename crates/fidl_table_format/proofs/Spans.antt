-- Which numbers a range has.
use Rattle.std.proofs.Common.{◌≡◌, ◌↔◌, ℕ, zero, suc, ◌⊎◌, inl, inr, subst, arith, [], ◌∷◌}
use Rattle.std.proofs.lemmas.Int.{ints}
use Rattle.std.proofs.lemmas.List.Elements.{Contains-append_left, Contains-append_right, Contains-append_cases}
use Rattle.std.specs.Prelude.{ℤ, pos, negsuc, ◌+ℤ◌, ◌≤ℤ◌, ◌<ℤ◌, Contains}
use Rattle.std.specs.Int.{int_gap}
use Rattle.std.specs.Cmp.{int_ranks}
use Rattle.std.specs.Ordering.{int_cmp, MatchOrdering}
use Rattle.std.specs.declared.cmp.Ordering.{Ordering}
use Rattle.std.specs.declared.cmp.Ordering.TheVariants.{Less, Equal, Greater}
use Rattle.fidl_table_format.specs.Terms.{numbers_from, span}

-- the least number, or a later one
first_or : (a z : ℤ) → a ≤ℤ z → (a ≡ z) ⊎ ((a +ℤ pos 1) ≤ℤ z)
first_or a z le = by (int_cmp a z) (int_ranks a z)
  where
    by : (r : Ordering) → MatchOrdering r (a <ℤ z) (a ≡ z) (z <ℤ a) → (a ≡ z) ⊎ ((a +ℤ pos 1) ≤ℤ z)
    by Less lt = inr (omega (arith, ints))
    by Equal same = inl same
    by Greater gt = absurd (omega (arith, ints))

-- the numbers from one on are those that are less than the end
has_numbers : (n : ℕ) (a z : ℤ) → a ≤ℤ z → z <ℤ (a +ℤ pos n) → Contains (numbers_from a n) z
has_numbers zero a z le lt = absurd (omega (arith, ints))
has_numbers (suc n) a z le lt =
    elim (first_or a z le) [
      | inl same ↦ Contains-append_left (a ∷ []) (numbers_from (a +ℤ pos 1) n) z (0, omega arith, same)
      | inr later ↦ Contains-append_right (a ∷ []) (numbers_from (a +ℤ pos 1) n) z (has_numbers n (a +ℤ pos 1) z later (omega (arith, ints)))
    ]

one_of : (a z : ℤ) → Contains (a ∷ []) z → a ≡ z
one_of a z (zero, lt, same) = same
one_of a z (suc k, lt, same) = absurd (omega (arith, lt))

has_only : (n : ℕ) (a z : ℤ) → Contains (numbers_from a n) z → (a ≤ℤ z) × (z <ℤ (a +ℤ pos n))
has_only zero a z y = absurd (omega (arith, y.1))
has_only (suc n) a z y =
    elim (Contains-append_cases (a ∷ []) (numbers_from (a +ℤ pos 1) n) z y) [
      | inl first ↦ subst (λ x. (a ≤ℤ x) × (x <ℤ (a +ℤ pos (suc n)))) (one_of a z first) (omega (arith, ints), omega (arith, ints))
      | inr later ↦ let rest = has_only n (a +ℤ pos 1) z later in (omega (arith, ints, rest.0), omega (arith, ints, rest.1))
    ]

-- so many numbers are less than the end
up_to : (a b z : ℤ) → a ≤ℤ z → z <ℤ b → z <ℤ (a +ℤ pos (int_gap a b))
up_to (pos a) (pos b) z le lt = omega (arith, ints)
up_to (pos a) (negsuc b) z le lt = absurd (omega (arith, ints))
up_to (negsuc a) (pos b) z le lt = omega (arith, ints)
up_to (negsuc a) (negsuc b) z le lt = omega (arith, ints)

only_to : (a b z : ℤ) → a ≤ℤ z → z <ℤ (a +ℤ pos (int_gap a b)) → z <ℤ b
only_to (pos a) (pos b) z le lt = omega (arith, ints)
only_to (pos a) (negsuc b) z le lt = absurd (omega (arith, ints))
only_to (negsuc a) (pos b) z le lt = omega (arith, ints)
only_to (negsuc a) (negsuc b) z le lt = omega (arith, ints)

-- a range has the numbers from its lowest to its highest
pub span_has : (lowest highest z : ℤ) → Contains (span lowest highest) z ↔ ((lowest ≤ℤ z) × (z ≤ℤ highest))
unfolding span
span_has lowest highest z =
    let n = int_gap lowest (highest +ℤ pos 1) in (
      λ y. let both = has_only n lowest z y in (both.0, let below = only_to lowest (highest +ℤ pos 1) z both.0 both.1 in omega (arith, ints)),
      λ both. has_numbers n lowest z both.0 (up_to lowest (highest +ℤ pos 1) z both.0 (let le = both.1 in omega (arith, ints))),
    )
