-- Ranges that are made up of others.
use Rattle.std.proofs.Common.{◌≡◌, ℕ, zero, suc, ◌+◌, ℤ, pos, negsuc, List, ◌∷◌, ◌++◌, sym, ap, ◌∙◌, arith, add-one}
use Rattle.std.proofs.lemmas.Int.{ints}
use Rattle.std.proofs.lemmas.List.{append-nil, append_assoc}
use Rattle.std.specs.Prelude.{◌+ℤ◌, ◌≤ℤ◌}
use Rattle.std.specs.Int.{int_gap}
use Rattle.fidl_wire.specs.Term.{Kind}
use Rattle.fidl_table_format.specs.declared.record.Header.{Header}
use Rattle.fidl_table_format.specs.Section.{range_at}
use Rattle.fidl_table_format.specs.Terms.{value_number, numbers_from, span, values_from}

-- as many numbers lie up to the last as up to one in between, and from there on
gaps : (a b c : ℤ) → a ≤ℤ b → b ≤ℤ c → int_gap a c ≡ int_gap a b + int_gap b c
gaps (pos a) (pos b) (pos c) p q = omega (arith, ints)
gaps (pos a) (pos b) (negsuc c) p q = absurd (omega (arith, ints))
gaps (pos a) (negsuc b) c p q = absurd (omega (arith, ints))
gaps (negsuc a) (pos b) (pos c) p q = omega (arith, ints)
gaps (negsuc a) (pos b) (negsuc c) p q = absurd (omega (arith, ints))
gaps (negsuc a) (negsuc b) (pos c) p q = omega (arith, ints)
gaps (negsuc a) (negsuc b) (negsuc c) p q = omega (arith, ints)

pub reached : (a b : ℤ) → a ≤ℤ b → a +ℤ pos (int_gap a b) ≡ b
reached (pos a) (pos b) p = omega (arith, ints)
reached (pos a) (negsuc b) p = absurd (omega (arith, ints))
reached (negsuc a) (pos b) p = omega (arith, ints)
reached (negsuc a) (negsuc b) p = omega (arith, ints)

-- so many numbers, and then so many more
numbers_apart : (m n : ℕ) (a : ℤ) → numbers_from a (m + n) ≡ numbers_from a m ++ numbers_from (a +ℤ pos m) n
numbers_apart zero n a =
    let none : 0 + n ≡ n = omega arith in
    let same : a ≡ a +ℤ pos 0 = omega (arith, ints) in
    ap (numbers_from a) none ∙ ap (λ z. numbers_from z n) same
numbers_apart (suc m) n a =
    let more : suc m + n ≡ suc (m + n) = omega arith in
    let start : (a +ℤ pos 1) +ℤ pos m ≡ a +ℤ pos (suc m) = omega (arith, ints) in
    ap (numbers_from a) more ∙ ap (λ zs. a ∷ zs) (numbers_apart m n (a +ℤ pos 1) ∙ ap (λ z. numbers_from (a +ℤ pos 1) m ++ numbers_from z n) start)

-- a range has the numbers up to one in between, and those behind
pub span_apart : (low mid high : ℤ) → low ≤ℤ (mid +ℤ pos 1) → mid ≤ℤ high → span low high ≡ span low mid ++ span (mid +ℤ pos 1) high
unfolding span
span_apart low mid high p q =
    let a = int_gap low (mid +ℤ pos 1) in
    let b = int_gap (mid +ℤ pos 1) (high +ℤ pos 1) in
    let both : int_gap low (high +ℤ pos 1) ≡ a + b = gaps low (mid +ℤ pos 1) (high +ℤ pos 1) p (omega (arith, ints)) in
    ap (numbers_from low) both ∙ numbers_apart a b low ∙ ap (λ z. numbers_from low a ++ numbers_from z b) (reached low (mid +ℤ pos 1) p)

module _ (bytes : List ℕ) (h : Header) (kind : Kind) where
  abbrev numbers : ℕ → List ℤ
  numbers i = span (value_number kind (range_at bytes h i).lowest) (value_number kind (range_at bytes h i).highest)

  -- the numbers of one range more
  more_values : (first n : ℕ) → values_from bytes h kind first (suc n) ≡ values_from bytes h kind first n ++ numbers (first + n)
  more_values first zero = let at : first ≡ first + 0 = omega arith in append-nil (numbers first) ∙ ap numbers at
  more_values first (suc n) =
      let at : suc first + n ≡ first + suc n = omega arith in
      ap (λ xs. numbers first ++ xs) (more_values (suc first) n ∙ ap (λ i. values_from bytes h kind (suc first) n ++ numbers i) at)
      ∙ sym (append_assoc (numbers first) (values_from bytes h kind (suc first) n) (numbers (first + suc n)))

  pub one_more : (first n : ℕ) (low high : ℤ) → low ≡ value_number kind (range_at bytes h (first + n)).lowest → high ≡ value_number kind (range_at bytes h (first + n)).highest
      → values_from bytes h kind first (n + 1) ≡ values_from bytes h kind first n ++ span low high
  one_more first n low high p q =
      ap (values_from bytes h kind first) (add-one n) ∙ more_values first n
      ∙ ap (λ z. values_from bytes h kind first n ++ span z (value_number kind (range_at bytes h (first + n)).highest)) (sym p)
      ∙ ap (λ z. values_from bytes h kind first n ++ span low z) (sym q)

  -- the values before a place, and those that are missing, are those that are asked for; with one range more fewer are missing
  pub fewer_missing : (all : List ℤ) (first n : ℕ) (low mid high : ℤ) → values_from bytes h kind first n ++ span low high ≡ all
      → low ≡ value_number kind (range_at bytes h (first + n)).lowest → mid ≡ value_number kind (range_at bytes h (first + n)).highest
      → low ≤ℤ (mid +ℤ pos 1) → mid ≤ℤ high → values_from bytes h kind first (n + 1) ++ span (mid +ℤ pos 1) high ≡ all
  fewer_missing all first n low mid high before p q le lt =
      ap (λ xs. xs ++ span (mid +ℤ pos 1) high) (one_more first n low mid p q)
      ∙ append_assoc (values_from bytes h kind first n) (span low mid) (span (mid +ℤ pos 1) high)
      ∙ ap (λ xs. values_from bytes h kind first n ++ xs) (sym (span_apart low mid high le lt)) ∙ before

  -- none is missing
  pub none_missing : (all : List ℤ) (first n : ℕ) (low high : ℤ) → values_from bytes h kind first n ++ span low high ≡ all
      → low ≡ value_number kind (range_at bytes h (first + n)).lowest → high ≡ value_number kind (range_at bytes h (first + n)).highest
      → values_from bytes h kind first (n + 1) ≡ all
  none_missing all first n low high before p q = one_more first n low high p q ∙ before
