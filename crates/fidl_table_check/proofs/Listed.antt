-- The values of enums.
use Rattle.std.proofs.Common.{◌≡◌, ℕ, zero, suc, ◌+◌, ◌<◌, ◌≤◌, ℤ, pos, negsuc, Bool, true, false, not, IsTrue, List, [], ◌∷◌, ◌++◌, length, take, drop, Option, Some, None, if◌then◌else◌, slice_get, refl, sym, ap, ◌∙◌, subst, arith, add-one}
use Rattle.std.proofs.lemmas.Int.{ints}
use Rattle.std.proofs.lemmas.List.{take-append-drop, append-nil, append_assoc}
use Rattle.std.proofs.lemmas.Bool.{eqb-true}
use Rattle.std.specs.Prelude.{◌+ℤ◌, ◌==◌}
use Rattle.std.specs.Int.{int_gap}
use Rattle.std.specs.List.{Contains}
use Rattle.fidl_wire.specs.Term.{Kind}
use Rattle.fidl_equivalence.specs.Alike.{AlikeValues, flexible, strict}
use Rattle.fidl_table_format.specs.declared.record.Entry.{Entry}
use Rattle.fidl_table_format.specs.declared.record.Header.{Header}
use Rattle.fidl_table_format.specs.Section.{header_of, range_at}
use Rattle.fidl_table_format.specs.Terms.{is_strict, underlying, value_number, numbers_from, span, values_from, strict_values}

-- as many numbers as lie up to another
gap : (a b : ℤ) (n : ℕ) → b ≡ a +ℤ pos n → int_gap a b ≡ n
gap (pos a) (pos b) n is = omega (arith, ints)
gap (pos a) (negsuc b) n is = absurd (omega (arith, ints))
gap (negsuc a) (pos b) n is = omega (arith, ints)
gap (negsuc a) (negsuc b) n is = omega (arith, ints)

-- the first values are the numbers from one on
counted : (n : ℕ) (zs : List ℤ) (a : ℤ) → n ≤ length zs → ((k : ℕ) (z : ℤ) → k < n → slice_get zs k ≡ Some z → z ≡ a +ℤ pos k) → numbers_from a n ≡ take n zs
counted zero zs a long each = refl
counted (suc n) [] a long each = absurd (omega (arith, long))
counted (suc n) (z ∷ zs) a long each =
    let first : a ≡ z = let is = each 0 z (omega arith) refl in omega (arith, ints) in
    let rest = counted n zs (a +ℤ pos 1) (omega (arith, long)) (λ k y p at. let is = each (suc k) y (omega (arith, p)) at in omega (arith, ints)) in
    λ i. first i ∷ rest i

-- values that begin with those of a range
pub begins : (zs : List ℤ) (lowest highest : ℤ) (n : ℕ) → n < length zs → highest ≡ lowest +ℤ pos n
    → ((k : ℕ) (z : ℤ) → k < n + 1 → slice_get zs k ≡ Some z → z ≡ lowest +ℤ pos k) → zs ≡ span lowest highest ++ drop (n + 1) zs
unfolding span
begins zs lowest highest n long is each =
    let own : int_gap lowest (highest +ℤ pos 1) ≡ n + 1 = gap lowest (highest +ℤ pos 1) (n + 1) (omega (arith, ints)) in
    let first : numbers_from lowest (int_gap lowest (highest +ℤ pos 1)) ≡ take (n + 1) zs = ap (numbers_from lowest) own ∙ counted (n + 1) zs lowest (omega (arith, long)) each in
    sym (ap (λ xs. xs ++ drop (n + 1) zs) first ∙ take-append-drop (n + 1) zs)

-- the numbers of one range more
module _ (bytes : List ℕ) (h : Header) (kind : Kind) where
  abbrev numbers : ℕ → List ℤ
  numbers i = span (value_number kind (range_at bytes h i).lowest) (value_number kind (range_at bytes h i).highest)

  more_values : (first n : ℕ) → values_from bytes h kind first (suc n) ≡ values_from bytes h kind first n ++ numbers (first + n)
  more_values first zero = let at : first ≡ first + 0 = omega arith in append-nil (numbers first) ∙ ap numbers at
  more_values first (suc n) =
      let at : suc first + n ≡ first + suc n = omega arith in
      ap (λ xs. numbers first ++ xs) (more_values (suc first) n ∙ ap (λ i. values_from bytes h kind (suc first) n ++ numbers i) at)
      ∙ sym (append_assoc (numbers first) (values_from bytes h kind (suc first) n) (numbers (first + suc n)))

  pub one_range_more : (zs rest behind : List ℤ) (first n : ℕ) → zs ≡ values_from bytes h kind first n ++ rest → rest ≡ numbers (first + n) ++ behind
      → zs ≡ values_from bytes h kind first (n + 1) ++ behind
  one_range_more zs rest behind first n before own =
      let one : values_from bytes h kind first n ++ numbers (first + n) ≡ values_from bytes h kind first (n + 1) = sym (more_values first n) ∙ ap (values_from bytes h kind first) (sym (add-one n)) in
      before ∙ ap (λ xs. values_from bytes h kind first n ++ xs) own ∙ sym (append_assoc (values_from bytes h kind first n) (numbers (first + n)) behind) ∙ ap (λ xs. xs ++ behind) one

  no_rest : (rest : List ℤ) → (length rest == 0) ≡ true → rest ≡ []
  no_rest [] none = refl
  no_rest (z ∷ rest) none = absurd (let never : suc (length rest) ≡ 0 = eqb-true (suc (length rest)) 0 none in omega (arith, never))

  pub no_more : (zs rest : List ℤ) (first n count : ℕ) → zs ≡ values_from bytes h kind first n ++ rest → n ≡ count → (length rest == 0) ≡ true → zs ≡ values_from bytes h kind first count
  no_more zs rest first n count before all none =
      before ∙ ap (λ xs. values_from bytes h kind first n ++ xs) (no_rest rest none) ∙ append-nil (values_from bytes h kind first n) ∙ ap (values_from bytes h kind first) all

  -- the range of a record
  pub own_range : (rest behind : List ℤ) (low high : ℤ) (i : ℕ) → low ≡ value_number kind (range_at bytes h i).lowest → high ≡ value_number kind (range_at bytes h i).highest
      → rest ≡ span low high ++ behind → rest ≡ numbers i ++ behind
  own_range rest behind low high i lowest highest is = subst (λ z. rest ≡ span (value_number kind (range_at bytes h i).lowest) z ++ behind) highest (subst (λ z. rest ≡ span z high ++ behind) lowest is)

-- the same values
pub alike_values : (zs ws : List ℤ) → zs ≡ ws → AlikeValues (Some zs) (Some ws)
alike_values zs ws is = strict (λ z. (λ among. subst (λ l. Contains l z) is among, λ among. subst (λ l. Contains l z) (sym is) among))

-- an entry that isn't strict has any values
pub both_flexible : (bytes : List ℕ) (e : Entry) (zs : Option (List ℤ)) (flag : Bool) → zs ≡ None → flag ≡ is_strict e → IsTrue (not flag)
    → AlikeValues zs (strict_values bytes (header_of bytes) e)
both_flexible bytes e zs true none stated off = absurd (let never : false ≡ true = off in cc)
both_flexible bytes e zs false none stated off =
    subst (λ o. AlikeValues o (strict_values bytes (header_of bytes) e)) (sym none)
    (subst (λ b. AlikeValues None (if b then Some (values_from bytes (header_of bytes) (underlying e) e.first e.count) else None)) stated flexible)

-- a strict one has those that it lists
pub both_strict : (bytes : List ℕ) (e : Entry) (given : Option (List ℤ)) (zs : List ℤ) (flag : Bool) → given ≡ Some zs → flag ≡ is_strict e → flag ≡ true
    → AlikeValues (Some zs) (Some (values_from bytes (header_of bytes) (underlying e) e.first e.count))
    → AlikeValues given (strict_values bytes (header_of bytes) e)
both_strict bytes e given zs flag some stated on alike =
    let ws = values_from bytes (header_of bytes) (underlying e) e.first e.count in
    subst (λ o. AlikeValues o (strict_values bytes (header_of bytes) e)) (sym some)
    (subst (λ b. AlikeValues (Some zs) (if b then Some ws else None)) (sym on ∙ stated) alike)
