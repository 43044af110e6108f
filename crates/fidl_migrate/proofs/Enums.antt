-- The ranges of an enum in a well-formed table.
use Rattle.std.proofs.Common.{◌≡◌, ℕ, zero, suc, ◌+◌, ◌<◌, ◌≤◌, ℤ, pos, ◌<ℤ◌, List, ◌++◌, length, IsTrue, refl, sym, ap, ◌∙◌, subst, arith}
use Rattle.std.proofs.lemmas.List.Elements.{All-nil, All-cons}
use Rattle.std.specs.Prelude.{◌+ℤ◌, ◌≤ℤ◌, ◌-◌, All, ◌==◌}
use Rattle.fidl_wire.specs.Term.{Kind}
use Rattle.fidl_table_format.specs.declared.record.Header.{Header}
use Rattle.fidl_table_format.specs.declared.record.Entry.{Entry}
use Rattle.fidl_table_format.specs.Section.{header_of, entry_at, range_at, has_ranges}
use Rattle.fidl_table_format.specs.Terms.{span, underlying, value_number, values_from}
use Rattle.fidl_migrate.specs.Kept.{numbers_of}
use Rattle.fidl_migrate.specs.Ranges.{IsInOrder, IsApartFrom, AreApart, numbers_in, ranges_from, ranges_of, IsEnumOf}
use Rattle.fidl_migrate.proofs.Apart.{only_ranges, fewest_ranges}

module _ (bytes : List ℕ) (h : Header) (kind : Kind) where
  abbrev low : ℕ → ℤ
  low i = value_number kind (range_at bytes h i).lowest

  abbrev high : ℕ → ℤ
  high i = value_number kind (range_at bytes h i).highest

  -- the values are the numbers in the ranges
  pub numbers_are : (first n : ℕ) → numbers_in (ranges_from bytes h kind first n) ≡ values_from bytes h kind first n
  numbers_are first zero = refl
  numbers_are first (suc n) = ap (λ l. span (low first) (high first) ++ l) (numbers_are (suc first) n)

  pub count_is : (first n : ℕ) → length (ranges_from bytes h kind first n) ≡ n
  count_is first zero = refl
  count_is first (suc n) = ap suc (count_is (suc first) n)

  -- each range has its ends in order
  pub all_in_order : (first n : ℕ) → ((i : ℕ) → first ≤ i → i < first + n → low i ≤ℤ high i) → All IsInOrder (ranges_from bytes h kind first n)
  all_in_order first zero order = All-nil IsInOrder
  all_in_order first (suc n) order =
      All-cons IsInOrder (record { lowest = low first; highest = high first }) (ranges_from bytes h kind (suc first) n)
      (order first (omega arith) (omega arith)) (all_in_order (suc first) n (λ i p q. order i (omega (arith, p)) (omega (arith, q))))

  -- ranges of which each is apart from the next
  pub all_apart : (first n : ℕ) → ((i : ℕ) → first ≤ i → i < first + n → low i ≤ℤ high i)
      → ((i : ℕ) → first ≤ i → suc i < first + n → (high i +ℤ pos 1) <ℤ low (suc i)) → AreApart (ranges_from bytes h kind first n)
  all_apart first zero order apart = tt
  all_apart first (suc n) order apart = (
    order first (omega arith) (omega arith),
    next n (λ p. apart first (omega arith) (omega (arith, p))),
    all_apart (suc first) n (λ i p q. order i (omega (arith, p)) (omega (arith, q))) (λ i p q. apart i (omega (arith, p)) (omega (arith, q))),
  )
    where
      next : (k : ℕ) → (0 < k → (high first +ℤ pos 1) <ℤ low (suc first)) → IsApartFrom (high first) (ranges_from bytes h kind (suc first) k)
      next zero after = tt
      next (suc k) after = after (omega arith)

module _ (bytes : List ℕ) (index : ℕ) (e : IsEnumOf bytes index) where
  abbrev entry : Entry
  entry = entry_at bytes index

  in_order : (i : ℕ) → entry.first ≤ i → i < entry.first + entry.count → low bytes (header_of bytes) (underlying entry) i ≤ℤ high bytes (header_of bytes) (underlying entry) i
  in_order i p q =
      let k = i - entry.first in
      let at : entry.first + k ≡ i = omega (arith, p) in
      subst (λ n. low bytes (header_of bytes) (underlying entry) n ≤ℤ high bytes (header_of bytes) (underlying entry) n) at
      ((e.well_formed.entries index e.entry).sorted.values e.enum k (omega (arith, p, q))).order

  pub enum_in_order : All IsInOrder (ranges_of bytes entry)
  enum_in_order = all_in_order bytes (header_of bytes) (underlying entry) entry.first entry.count in_order

  pub enum_apart : (header_of bytes).version ≡ 2 → AreApart (ranges_of bytes entry)
  enum_apart two = all_apart bytes (header_of bytes) (underlying entry) entry.first entry.count in_order (λ i p q.
      let k = i - entry.first in
      let at : entry.first + k ≡ i = omega (arith, p) in
      let next : entry.first + suc k ≡ suc i = omega (arith, p) in
      let on : IsTrue (has_ranges (header_of bytes)) = ap (λ v. v == 2) two in
      let apart = ((e.well_formed.entries index e.entry).sorted.values e.enum k (omega (arith, p, q))).apart on (omega (arith, p, q)) in
      subst (λ n. (high bytes (header_of bytes) (underlying entry) n +ℤ pos 1) <ℤ low bytes (header_of bytes) (underlying entry) (suc i)) at
      (subst (λ n. (high bytes (header_of bytes) (underlying entry) (entry.first + k) +ℤ pos 1) <ℤ low bytes (header_of bytes) (underlying entry) n) next apart))

  pub enum_numbers : numbers_in (ranges_of bytes entry) ≡ numbers_of bytes entry
  enum_numbers = numbers_are bytes (header_of bytes) (underlying entry) entry.first entry.count

  pub enum_count : length (ranges_of bytes entry) ≡ entry.count
  enum_count = count_is bytes (header_of bytes) (underlying entry) entry.first entry.count

same_numbers : (old new : List ℕ) (i j : ℕ) → IsEnumOf old i → IsEnumOf new j → numbers_of new (entry_at new j) ≡ numbers_of old (entry_at old i)
    → numbers_in (ranges_of new (entry_at new j)) ≡ numbers_in (ranges_of old (entry_at old i))
same_numbers old new i j before after same = enum_numbers new j after ∙ same ∙ sym (enum_numbers old i before)

pub fewest_of_enum : (old new : List ℕ) (i j : ℕ) → IsEnumOf old i → IsEnumOf new j → (header_of new).version ≡ 2
    → numbers_of new (entry_at new j) ≡ numbers_of old (entry_at old i) → (entry_at new j).count ≤ (entry_at old i).count
fewest_of_enum old new i j before after two same =
    let less = fewest_ranges (ranges_of old (entry_at old i)) (ranges_of new (entry_at new j)) (enum_apart new j after two) (enum_in_order old i before) (sym (same_numbers old new i j before after same)) in
    let m = enum_count old i before in
    let n = enum_count new j after in
    omega (arith, less, m, n)

pub only_of_enum : (old new : List ℕ) (i j : ℕ) → IsEnumOf old i → IsEnumOf new j → (header_of old).version ≡ 2 → (header_of new).version ≡ 2
    → numbers_of new (entry_at new j) ≡ numbers_of old (entry_at old i) → ranges_of new (entry_at new j) ≡ ranges_of old (entry_at old i)
only_of_enum old new i j before after one two same =
    only_ranges (ranges_of old (entry_at old i)) (ranges_of new (entry_at new j)) (enum_apart old i before one) (enum_apart new j after two) (same_numbers old new i j before after same)
