-- Ranges with a number between each and the next are the only ones with their numbers, and the fewest.
use Rattle.std.proofs.Common.{◌≡◌, ℕ, zero, suc, ◌+◌, ◌-◌, ◌≤◌, ℤ, pos, negsuc, ◌<ℤ◌, List, [], ◌∷◌, ◌++◌, length, drop, get_or, refl, sym, ap, ◌∙◌, subst, arith}
use Rattle.std.proofs.lemmas.Int.{ints}
use Rattle.std.proofs.lemmas.List.Elements.{All-head, All-tail}
use Rattle.std.specs.Prelude.{◌+ℤ◌, ◌≤ℤ◌, All, ⊤}
use Rattle.std.specs.Int.{int_gap}
use Rattle.fidl_table_format.specs.Terms.{numbers_from, span}
use Rattle.fidl_migrate.specs.Ranges.{Range, IsInOrder, IsApartFrom, AreApart, numbers_in}
use Rattle.fidl_migrate.proofs.Spans.{reached}

-- numbers that do not go on with this one
abbrev Leaves : ℤ → List ℤ → Type 0
Leaves z [] = ⊤
Leaves z (next ∷ rest) = z <ℤ next

first_is : (a b : ℤ) (xs ys : List ℤ) → a ∷ xs ≡ b ∷ ys → a ≡ b
first_is a b xs ys e = ap (λ l. get_or l 0 a) e

rest_is : (a b : ℤ) (xs ys : List ℤ) → a ∷ xs ≡ b ∷ ys → xs ≡ ys
rest_is a b xs ys e = ap (drop 1) e

not_empty : (a : ℤ) (xs : List ℤ) → [] ≡ a ∷ xs → ⊥
not_empty a xs e = let never : 0 ≡ suc (length xs) = ap length e in omega (arith, never)

leaves_not : (a : ℤ) (xs ys : List ℤ) → Leaves (a +ℤ pos 0) xs → xs ≡ a ∷ ys → ⊥
leaves_not a [] ys l e = not_empty a ys e
leaves_not a (x ∷ xs) ys l e = let same : x ≡ a = first_is x a xs ys e in omega (arith, ints)

-- a run of numbers that ends is as long as any run with the same start, and what the other has behind it is the rest
pub longest_run : (m n : ℕ) (a : ℤ) (xs ys : List ℤ) → Leaves (a +ℤ pos m) xs → numbers_from a n ++ ys ≡ numbers_from a m ++ xs
    → (k : ℕ) × (m ≡ n + k) × (ys ≡ numbers_from (a +ℤ pos n) k ++ xs)
longest_run m zero a xs ys l e = (m, omega arith, let same : a ≡ a +ℤ pos 0 = omega (arith, ints) in e ∙ ap (λ z. numbers_from z m ++ xs) same)
longest_run zero (suc n) a xs ys l e = absurd (leaves_not a xs (numbers_from (a +ℤ pos 1) n ++ ys) l (sym e))
longest_run (suc m) (suc n) a xs ys l e =
    let after : (k : ℕ) → a +ℤ pos (suc k) ≡ (a +ℤ pos 1) +ℤ pos k = λ k. omega (arith, ints) in
    let r = longest_run m n (a +ℤ pos 1) xs ys (subst (λ z. Leaves z xs) (after m) l) (rest_is a a (numbers_from (a +ℤ pos 1) n ++ ys) (numbers_from (a +ℤ pos 1) m ++ xs) e) in
    (r.0, let same = r.1 in omega (arith, same), r.2 ∙ ap (λ z. numbers_from z r.0 ++ xs) (sym (after n)))

-- a range has some numbers, of which the lowest is the first
gap_is : (low end : ℤ) → low <ℤ end → (n : ℕ) × (int_gap low end ≡ suc n)
gap_is (pos a) (pos b) p = (b - suc a, omega (arith, ints))
gap_is (pos a) (negsuc b) p = absurd (omega (arith, ints))
gap_is (negsuc a) (pos b) p = (a + b, omega (arith, ints))
gap_is (negsuc a) (negsuc b) p = (a - suc b, omega (arith, ints))

pub span_is : (low high : ℤ) → low ≤ℤ high → (n : ℕ) × (span low high ≡ numbers_from low (suc n)) × (high ≡ low +ℤ pos n)
unfolding span
span_is low high p =
    let g = gap_is low (high +ℤ pos 1) (omega (arith, ints)) in
    let end = reached low (high +ℤ pos 1) (omega (arith, ints)) in
    let last : high +ℤ pos 1 ≡ low +ℤ pos (suc g.0) = sym end ∙ ap (λ n. low +ℤ pos n) g.1 in
    (g.0, ap (numbers_from low) g.1, omega (arith, ints, last))

-- where ranges with a number between each and the next go on, a number is left out
leaves : (z : ℤ) (ranges : List Range) → IsApartFrom z ranges → AreApart ranges → Leaves (z +ℤ pos 1) (numbers_in ranges)
leaves z [] from apart = tt
leaves z (range ∷ ranges) from apart =
    let s = span_is range.lowest range.highest apart.0 in
    subst (λ l. Leaves (z +ℤ pos 1) (l ++ numbers_in ranges)) (sym s.1) from

-- the first numbers are the same, and behind the other's first range are those that are missing
record HasRun (range other : Range) (ranges others : List Range) : Type 0 where
  start : other.lowest ≡ range.lowest
  more : ℕ
  end : range.highest ≡ other.highest +ℤ pos more
  rest : numbers_in others ≡ numbers_from (other.highest +ℤ pos 1) more ++ numbers_in ranges

runs : (range other : Range) (ranges others : List Range) → AreApart (range ∷ ranges) → IsInOrder other
    → numbers_in (other ∷ others) ≡ numbers_in (range ∷ ranges) → HasRun range other ranges others
runs range other ranges others apart order same =
    let s = span_is range.lowest range.highest apart.0 in
    let t = span_is other.lowest other.highest order in
    let all : numbers_from other.lowest (suc t.0) ++ numbers_in others ≡ numbers_from range.lowest (suc s.0) ++ numbers_in ranges =
    ap (λ l. l ++ numbers_in others) (sym t.1) ∙ same ∙ ap (λ l. l ++ numbers_in ranges) s.1 in
    let start : other.lowest ≡ range.lowest = first_is other.lowest range.lowest (numbers_from (other.lowest +ℤ pos 1) t.0 ++ numbers_in others) (numbers_from (range.lowest +ℤ pos 1) s.0 ++ numbers_in ranges) all in
    let last = s.2 in
    let other_last = t.2 in
    let behind : range.highest +ℤ pos 1 ≡ range.lowest +ℤ pos (suc s.0) = omega (arith, ints) in
    let other_behind : range.lowest +ℤ pos (suc t.0) ≡ other.highest +ℤ pos 1 = omega (arith, ints) in
    let r = longest_run (suc s.0) (suc t.0) range.lowest (numbers_in ranges) (numbers_in others)
    (subst (λ z. Leaves z (numbers_in ranges)) behind (leaves range.highest ranges apart.1 apart.2))
    (subst (λ z. numbers_from z (suc t.0) ++ numbers_in others ≡ numbers_from range.lowest (suc s.0) ++ numbers_in ranges) start all) in
    let count = r.1 in
    record {
      start = start;
      more = r.0;
      end = omega (arith, ints);
      rest = r.2 ∙ ap (λ z. numbers_from z r.0 ++ numbers_in ranges) other_behind;
    }

some_numbers : (range : Range) (ranges : List Range) → IsInOrder range → [] ≡ numbers_in (range ∷ ranges) → ⊥
some_numbers range ranges order same =
    let s = span_is range.lowest range.highest order in
    not_empty range.lowest (numbers_from (range.lowest +ℤ pos 1) s.0 ++ numbers_in ranges) (same ∙ ap (λ l. l ++ numbers_in ranges) s.1)

same_end : (low high : ℤ) (m n : ℕ) → low ≡ high +ℤ pos m → high ≡ low +ℤ pos n → (low ≡ high) × (m ≡ 0)
same_end low high m n p q = (omega (arith, ints, p, q), omega (arith, ints, p, q))

-- no other ranges with a number between each and the next have these numbers
pub only_ranges : (ranges others : List Range) → AreApart ranges → AreApart others → numbers_in others ≡ numbers_in ranges → others ≡ ranges
only_ranges [] [] apart others_apart same = refl
only_ranges [] (other ∷ others) apart others_apart same = absurd (some_numbers other others others_apart.0 (sym same))
only_ranges (range ∷ ranges) [] apart others_apart same = absurd (some_numbers range ranges apart.0 same)
only_ranges (range ∷ ranges) (other ∷ others) apart others_apart same =
    let one = runs range other ranges others apart others_apart.0 same in
    let two = runs other range others ranges others_apart apart.0 (sym same) in
    let ends = same_end range.highest other.highest one.more two.more one.end two.end in
    let rest : numbers_in others ≡ numbers_in ranges = one.rest ∙ ap (λ n. numbers_from (other.highest +ℤ pos 1) n ++ numbers_in ranges) ends.1 in
    let tail = only_ranges ranges others apart.2 others_apart.2 rest in
    λ i. record { lowest = one.start i; highest = sym ends.0 i } ∷ tail i

-- what the first of the other ranges leaves over of this one begins the rest, which others have
less_left : (range other : Range) (ranges others : List Range) → AreApart (range ∷ ranges)
    → ((rest : List Range) → AreApart rest → numbers_in others ≡ numbers_in rest → length rest ≤ length others)
    → (n : ℕ) → range.highest ≡ other.highest +ℤ pos n → numbers_in others ≡ numbers_from (other.highest +ℤ pos 1) n ++ numbers_in ranges
    → suc (length ranges) ≤ suc (length others)
less_left range other ranges others apart fewest zero end rest = let less = fewest ranges apart.2 rest in omega (arith, less)
less_left range other ranges others apart fewest (suc n) end rest =
    let left : Range = record { lowest = other.highest +ℤ pos 1; highest = range.highest } in
    let order : IsInOrder left = omega (arith, ints, end) in
    let s = span_is left.lowest left.highest order in
    let last = s.2 in
    let count : suc n ≡ suc s.0 = omega (arith, ints, end, last) in
    let whole : numbers_in others ≡ numbers_in (left ∷ ranges) =
    rest ∙ ap (λ k. numbers_from (other.highest +ℤ pos 1) k ++ numbers_in ranges) count ∙ ap (λ l. l ++ numbers_in ranges) (sym s.1) in
    let less = fewest (left ∷ ranges) (order, apart.1, apart.2) whole in
    omega (arith, less)

-- no ranges with these numbers are fewer
pub fewest_ranges : (others ranges : List Range) → AreApart ranges → All IsInOrder others → numbers_in others ≡ numbers_in ranges → length ranges ≤ length others
fewest_ranges [] [] apart order same = omega arith
fewest_ranges [] (range ∷ ranges) apart order same = absurd (some_numbers range ranges apart.0 same)
fewest_ranges (other ∷ others) [] apart order same = omega arith
fewest_ranges (other ∷ others) (range ∷ ranges) apart order same =
    let r = runs range other ranges others apart (All-head IsInOrder other others order) same in
    less_left range other ranges others apart (λ rest rest_apart. fewest_ranges others rest rest_apart (All-tail IsInOrder other others order)) r.more r.end r.rest
