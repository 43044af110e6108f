-- The bytes of a part of the names, each by its place, and runs of which nothing is known.
use Rattle.std.proofs.Common.{◌≡◌, ℕ, zero, suc, ◌+◌, ◌-◌, ◌<◌, ◌≤◌, ◌↔◌, Bool, true, IsTrue, List, length, get_or, drop, replicate, refl, sym, ap, ◌∙◌, subst, arith, length-drop}
use Rattle.std.specs.Prelude.{slice_index}
use Rattle.std.specs.List.{list_all, slice_range}
use Rattle.std.proofs.lemmas.List.{length-take-le, get_or-take, get_or-drop}
use Rattle.std.proofs.lemmas.List.Sums.{AllPass-from_list_all, list_all-from_AllPass}
use Rattle.std.proofs.lemmas.Grind.{get_or_default_zero}
use Rattle.fidl_verify.specs.declared.runs.Class.{Class}
use Rattle.fidl_verify.specs.declared.runs.Runs.{Runs}
use Rattle.fidl_table_format.specs.declared.record.Header.{Header}
use Rattle.fidl_table_format.specs.Section.{names_place, table_length, name_at}
use Rattle.fidl_verify.specs.Runs.{is_of, AreOf, AreRuns, all_names}

-- the byte at a place of a part
part_at : (xs : List ℕ) (start end i : ℕ) → start ≤ i → i < end → get_or (slice_range xs start end) (i - start) 0 ≡ get_or xs i 0
part_at xs start end i low high =
    let e : start + (i - start) ≡ i = omega (arith, low) in
    get_or-take (end - start) (drop start xs) (i - start) 0 (omega (arith, low, high)) ∙ get_or-drop start xs (i - start) 0 ∙ ap (λ k. get_or xs k 0) e

-- how long a part is
part_length : (xs : List ℕ) (start end : ℕ) → end ≤ length xs → length (slice_range xs start end) ≡ end - start
part_length xs start end within = length-take-le (end - start) (drop start xs) (omega (arith, length-drop start xs, within))

-- each byte of a part passes a test where all do
pub each_of_part : (test : ℕ → Bool) (xs : List ℕ) (start end : ℕ) → end ≤ length xs → list_all test (slice_range xs start end) ≡ true
    → (i : ℕ) → start ≤ i → i < end → IsTrue (test (get_or xs i 0))
each_of_part test xs start end within all i low high =
    ap test (sym (part_at xs start end i low high)) ∙ AllPass-from_list_all test (slice_range xs start end) all (i - start) 0 (omega (arith, part_length xs start end within, low, high))

-- all bytes of a part pass a test where each does
pub all_of_part : (test : ℕ → Bool) (xs : List ℕ) (start end : ℕ) → end ≤ length xs → ((i : ℕ) → start ≤ i → i < end → IsTrue (test (get_or xs i 0)))
    → list_all test (slice_range xs start end) ≡ true
all_of_part test xs start end within each =
    list_all-from_AllPass test (slice_range xs start end)
    (λ k d less.
    let less' : k < end - start = omega (arith, less, part_length xs start end within) in
    let back : start + k - start ≡ k = omega arith in
    ap test (get_or_default_zero (slice_range xs start end) k d less
    ∙ ap (λ i. get_or (slice_range xs start end) i 0) (sym back)
    ∙ part_at xs start end (start + k) (omega arith) (omega (arith, less')))
    ∙ each (start + k) (omega arith) (omega (arith, less')))

-- nothing is known where all ends are zero
zeros : (n k : ℕ) → let none : ℕ = 0 in get_or (replicate n none) k none ≡ none
zeros zero k = refl
zeros (suc n) zero = refl
zeros (suc n) (suc k) = zeros n k

pub nothing_known : (class : Class) (names : List ℕ) (runs : Runs) (n : ℕ) → runs.class ≡ class → runs.names.now ≡ names → 0 < runs.block → (let none : ℕ = 0 in runs.ends ≡ replicate n none)
    → AreRuns class names runs
nothing_known class names runs n of_class of_names some ends =
    let none : (k : ℕ) → slice_index runs.ends k ≡ 0 = λ k. ap (λ xs. get_or xs k 0) ends ∙ zeros n k in
    record {
      of_class = of_class;
      of_names = of_names;
      some = some;
      within = λ k. omega (arith, none k);
      known = λ k i low high. absurd (omega (arith, none k, high));
    }

-- the same class and bytes by other names
pub same_bytes : (class class' : Class) (names names' : List ℕ) (start end : ℕ) → class ≡ class' → names ≡ names' → AreOf class' names' start end → AreOf class names start end
same_bytes class class' names names' start end k n all =
    subst (λ k. AreOf k names start end) (sym k) (subst (λ n. AreOf class' n start end) (sym n) all)

-- the bytes of a name, among all names and in the table
module _ (test : ℕ → Bool) (bytes : List ℕ) (start count place name_length : ℕ) (fits : place + name_length ≤ count) (within : start + count ≤ length bytes) where
  byte_at : (i : ℕ) → start + place ≤ i → i < start + place + name_length → get_or (slice_range bytes (start + 0) (start + 0 + count)) (i - (start + 0)) 0 ≡ get_or bytes i 0
  byte_at i low high = part_at bytes (start + 0) (start + 0 + count) i (omega (arith, low)) (omega (arith, high, fits))

  pub named : ((i : ℕ) → place ≤ i → i < place + name_length → IsTrue (test (get_or (slice_range bytes (start + 0) (start + 0 + count)) i 0)))
      → IsTrue (list_all test (slice_range bytes (start + place) (start + place + name_length)))
  named each =
      all_of_part test bytes (start + place) (start + place + name_length) (omega (arith, fits, within))
      (λ i low high. ap test (sym (byte_at i low high)) ∙ each (i - (start + 0)) (omega (arith, low)) (omega (arith, low, high)))

  pub named_each : IsTrue (list_all test (slice_range bytes (start + place) (start + place + name_length)))
      → (i : ℕ) → place ≤ i → i < place + name_length → IsTrue (test (get_or (slice_range bytes (start + 0) (start + 0 + count)) i 0))
  named_each all i low high =
      let back : start + i - (start + 0) ≡ i = omega arith in
      ap (λ k. test (get_or (slice_range bytes (start + 0) (start + 0 + count)) k 0)) (sym back)
      ∙ ap test (byte_at (start + i) (omega (arith, low)) (omega (arith, high)))
      ∙ each_of_part test bytes (start + place) (start + place + name_length) (omega (arith, fits, within)) all (start + i) (omega (arith, low)) (omega (arith, high))

-- a name lies in the table
pub name_of_class : (class : Class) (bytes : List ℕ) (h : Header) (place name_length : ℕ) (r : Bool) (runs : Runs) → place + name_length ≤ h.names → length bytes ≡ table_length h
    → AreRuns class (all_names bytes h) runs → (IsTrue r ↔ AreOf runs.class runs.names.now place (place + name_length))
    → IsTrue r ↔ IsTrue (list_all (is_of class) (name_at bytes h place name_length))
name_of_class class bytes h place name_length r runs fits whole are covers =
    let room : names_place h + h.names ≤ length bytes = omega (arith, whole) in (
      λ t. named (is_of class) bytes (names_place h) h.names place name_length fits room
          (same_bytes class runs.class (all_names bytes h) runs.names.now place (place + name_length) (sym are.of_class) (sym are.of_names) (covers.0 t)),
      λ all. covers.1 (same_bytes runs.class class runs.names.now (all_names bytes h) place (place + name_length) are.of_class are.of_names
          (named_each (is_of class) bytes (names_place h) h.names place name_length fits room all)),
    )
