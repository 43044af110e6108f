-- The names that a well-formed table gives to the members of its layouts.
use Rattle.std.proofs.Common.{◌≡◌, inl, inr, ℕ, zero, suc, ◌+◌, ◌<◌, ◌≤◌, List, [], ◌∷◌, ◌++◌, map, Bool, true, false, refl, sym, ap, subst, ◌∙◌, arith, add-zero, ℤ}
use Rattle.std.specs.Prelude.{Option, Some, None, ◌&&◌, slice_index, not}
use Rattle.std.specs.Option.{option_map_or}
use Rattle.std.specs.List.{AllByRecursion, list_all}
use Rattle.std.proofs.lemmas.Bool.Decides.{nat_tests}
use Rattle.std.proofs.lemmas.Bool.{and_parts, and_from}
use Rattle.std.proofs.lemmas.List.{map-append}
use Rattle.std.specs.Char.{is_ascii_digit, digit_value}
use Rattle.fidl_wire.specs.Term.{Term, Rows, nothing, rows_of}
use Rattle.fidl_wire.specs.Term as ty
use Rattle.fidl_wire.specs.Value.{Value, Member}
use Rattle.fidl_table_format.specs.declared.record.Entry.{Entry}
use Rattle.fidl_table_format.specs.declared.kind.EntryKind.{EntryKind}
use Rattle.fidl_table_format.specs.declared.kind.EntryKind.TheVariants.{Bool as Boolean, Int8, Int16, Int32, Int64, Uint8, Uint16, Uint32, Uint64, Bits, Enum, String, Vector, Array, Box, Struct, Table, Union, Handle}
use Rattle.fidl_table_format.specs.Kind.{kind_of}
use Rattle.fidl_table_format.specs.Name as table_name
use Rattle.fidl_table_format.specs.Name.{IsIdentifier}
use Rattle.fidl_table_format.specs.Section.{header_of, entry_at, row_at, name_at}
use Rattle.fidl_table_format.specs.Terms.{declarations_of, below, term_of, term_as, fields_from, rows_from, members_of}
use Rattle.fidl_table_format.specs.Uses.{uses_rows}
use Rattle.fidl_table_format.specs.WellFormed.{WellFormed}
use Rattle.fidl_verify.proofs.Known.{test_of}
use Rattle.fidl_verify.proofs.Owning.{row_named}
use Rattle.fidl_spelling.specs.Words.{IsRun, is_word_byte}
use Rattle.fidl_spelling.specs.Spells.{Bears, IsNumber, Spelled, AMember}
use Rattle.fidl_spelling.specs.Readable.{HasNames, FieldsHaveNames, RowsHaveNames, AnyNames, IsNamed, AreNamed, AreNamesDistinct, IsReadable, AreReadable}
use Rattle.fidl_spelling.proofs.Det.{Det, number_first}
use Rattle.fidl_spelling.proofs.Readable.{readable_resolve}
use Rattle.fidl_spelling.proofs.Single.{only, only_member}
use Rattle.fidl_reading.specs.Reads.{type_at}
use Rattle.fidl_reading.specs.Keys.{is_name}
use Rattle.fidl_reading.specs.Written.{HasDistinctNames}

-- the two ways to say what bytes words have
same_byte : (b : ℕ) → table_name.is_word_byte b ≡ true → is_word_byte b ≡ true
same_byte b h = grind (arith, nat_tests)

same_bytes : (w : List ℕ) → list_all table_name.is_word_byte w ≡ true → list_all is_word_byte w ≡ true
same_bytes [] h = refl
same_bytes (b ∷ w) h =
    let p = and_parts (table_name.is_word_byte b) (list_all table_name.is_word_byte w) h in
    and_from (is_word_byte b) (list_all is_word_byte w) (same_byte b p.0) (same_bytes w p.1)

-- an identifier is a name, and a word
pub identifier_run : (w : List ℕ) → IsIdentifier w → IsRun w
identifier_run w h = (h.some, same_bytes w h.only)

letter_first : (b : ℕ) → table_name.is_letter b ≡ true → (is_word_byte b && not (is_ascii_digit b)) ≡ true
letter_first b h = grind (arith, nat_tests)

pub identifier_name : (w : List ℕ) → IsIdentifier w → is_name w ≡ true
identifier_name w h = letter_first (slice_index w 0) h.begins

-- a number is no name
name_big : (c : ℕ) → (is_word_byte c && not (is_ascii_digit c)) ≡ true → 10 ≤ digit_value c
name_big c h = grind (arith, nat_tests)

pub number_no_name : (z : ℤ) (w : List ℕ) → IsNumber z w → is_name w ≡ false
number_no_name z [] h = refl
number_no_name z (c ∷ x) h = go (is_name (c ∷ x)) refl
  where
    go : (b : Bool) → is_name (c ∷ x) ≡ b → is_name (c ∷ x) ≡ false
    go false e = e
    go true e =
        let dash = number_first z c x h (name_big c e) in
        let never : (is_word_byte 45 && not (is_ascii_digit 45)) ≡ true = subst (λ n. (is_word_byte n && not (is_ascii_digit n)) ≡ true) dash e in
        absurd (cc never)

-- each row of a layout has a name
module _ (b : List ℕ) (w : WellFormed b) where
  abbrev row_text : ℕ → List ℕ
  row_text n = let r = row_at b (header_of b) n in name_at b (header_of b) r.name_place r.name_length

  pub row_identifier : (n : ℕ) → n < (header_of b).rows → IsIdentifier (row_text n)
  row_identifier n lt = (row_named b w n lt).identifier

  fields_named : (rule : Rows → Type 0) (first n : ℕ) → first + n ≤ (header_of b).rows → FieldsHaveNames rule (fields_from b (header_of b) first n)
  fields_named rule first zero within = tt
  fields_named rule first (suc n) within = (identifier_run (row_text first) (row_identifier first (omega arith)), tt, fields_named rule (suc first) n (omega arith))

  rows_named : (rule : Rows → Type 0) (first n : ℕ) → first + n ≤ (header_of b).rows → RowsHaveNames rule (rows_from b (header_of b) first n)
  rows_named rule first zero within = tt
  rows_named rule first (suc n) within = (identifier_run (row_text first) (row_identifier first (omega arith)), tt, rows_named rule (suc first) n (omega arith))

  term_named : (rule : Rows → Type 0) (k : EntryKind) (e : Entry) → rule (rows_of (term_as k b (header_of b) e)) → (uses_rows k ≡ true → e.first + e.count ≤ (header_of b).rows) → HasNames rule (term_as k b (header_of b) e)
  term_named rule Struct e r h = fields_named rule e.first e.count (h refl)
  term_named rule Table e r h = (r, rows_named rule e.first e.count (h refl))
  term_named rule Union e r h = (r, rows_named rule e.first e.count (h refl))
  term_named rule Boolean e r h = tt
  term_named rule Int8 e r h = tt
  term_named rule Int16 e r h = tt
  term_named rule Int32 e r h = tt
  term_named rule Int64 e r h = tt
  term_named rule Uint8 e r h = tt
  term_named rule Uint16 e r h = tt
  term_named rule Uint32 e r h = tt
  term_named rule Uint64 e r h = tt
  term_named rule Bits e r h = tt
  term_named rule Enum e r h = tt
  term_named rule String e r h = tt
  term_named rule Vector e r h = tt
  term_named rule Array e r h = tt
  term_named rule Box e r h = tt
  term_named rule Handle e r h = tt

  -- names are words, and the members of the tables and unions keep a rule where those of all entries do
  entry_named : (rule : Rows → Type 0) → ((i : ℕ) → i < (header_of b).entries → rule (members_of b i)) → (i : ℕ) → i < (header_of b).entries → HasNames rule (term_of b (header_of b) (entry_at b i))
  entry_named rule keep i lt = go (kind_of (entry_at b i).kind) refl (keep i lt)
    where
      go : (o : Option EntryKind) → kind_of (entry_at b i).kind ≡ o → rule (rows_of (option_map_or (λ k. term_as k b (header_of b) (entry_at b i)) o nothing)) → HasNames rule (option_map_or (λ k. term_as k b (header_of b) (entry_at b i)) o nothing)
      go None is r = tt
      go (Some k) is r = term_named rule k (entry_at b i) r (λ uses. (w.entries i lt).children.within (test_of uses_rows k (entry_at b i) is ∙ uses))

  -- what holds of each entry's type holds of all declarations
  all_below : (P : Term → Type 0) → ((i : ℕ) → i < (header_of b).entries → P (term_of b (header_of b) (entry_at b i))) → (n : ℕ) → n ≤ (header_of b).entries → AllByRecursion P (map (λ i. term_of b (header_of b) (entry_at b i)) (below n))
  all_below P each zero le = tt
  all_below P each (suc n) le =
      subst (AllByRecursion P) (sym (map-append (λ i. term_of b (header_of b) (entry_at b i)) (below n) (n ∷ [])))
      (joined (map (λ i. term_of b (header_of b) (entry_at b i)) (below n)) (term_of b (header_of b) (entry_at b n)) (all_below P each n (omega arith)) (each n (omega arith)))
    where
      joined : (ts : List Term) (t : Term) → AllByRecursion P ts → P t → AllByRecursion P (ts ++ t ∷ [])
      joined [] t h k = (k, tt)
      joined (u ∷ ts) t h k = (h.0, joined ts t h.1 k)

  pub all_declared : (P : Term → Type 0) → ((i : ℕ) → i < (header_of b).entries → P (term_of b (header_of b) (entry_at b i))) → AllByRecursion P (declarations_of b).terms
  all_declared P each = all_below P each (header_of b).entries (omega arith)

  -- the names of all declarations are words
  pub table_named : AreNamed (declarations_of b)
  table_named = all_declared IsNamed (entry_named AnyNames (λ i lt. tt))

  -- and members can be told by them where they are distinct
  pub table_readable : HasDistinctNames b → AreReadable (declarations_of b)
  table_readable distinct = all_declared IsReadable (entry_named AreNamesDistinct distinct)

  -- a name that a member bears is an identifier, and is a row's
  pub borne : (first n : ℕ) → first + n ≤ (header_of b).rows → (name : List ℕ) (ordinal : ℕ) → Bears (rows_from b (header_of b) first n) name ordinal
      → (k : ℕ) × (k < n) × (name ≡ row_text (first + k)) × (ordinal ≡ (row_at b (header_of b) (first + k)).key)
  borne first zero within name ordinal h = absurd h
  borne first (suc n) within name ordinal (inl h) = (0, (omega arith), subst (λ m. name ≡ row_text m) (sym (add-zero first)) h.1, subst (λ m. ordinal ≡ (row_at b (header_of b) m).key) (sym (add-zero first)) h.0)
  borne first (suc n) within name ordinal (inr h) =
      let x = borne (suc first) n (omega arith) name ordinal h in
      let same : suc first + x.0 ≡ first + suc x.0 = omega arith in
      (suc x.0, (omega (arith, x.1)), subst (λ m. name ≡ row_text m) same x.2, subst (λ m. ordinal ≡ (row_at b (header_of b) m).key) same x.3)

  pub bears_at : (first n k : ℕ) → k < n → Bears (rows_from b (header_of b) first n) (row_text (first + k)) (row_at b (header_of b) (first + k)).key
  bears_at first zero k lt = absurd (omega (arith, lt))
  bears_at first (suc n) zero lt = inl (ap (λ m. (row_at b (header_of b) m).key) (add-zero first), ap row_text (add-zero first))
  bears_at first (suc n) (suc k) lt =
      let same : suc first + k ≡ first + suc k = omega arith in
      inr (subst (λ m. Bears (rows_from b (header_of b) (suc first) n) (row_text m) (row_at b (header_of b) m).key) same (bears_at (suc first) n k (omega (arith, lt))))

  -- words spell at most one value of an entry's type
  pub single_at : (i : ℕ) (v u : Value) → Det (Spelled (declarations_of b) (type_at b i) v) (Spelled (declarations_of b) (type_at b i) u) (v ≡ u)
  single_at i v u = only AnyNames (declarations_of b) table_named (type_at b i) v u (readable_resolve AnyNames (declarations_of b).terms (ty.named i) table_named tt)

  rows_of_named : (t : Term) → IsNamed t → RowsHaveNames AnyNames (rows_of t)
  rows_of_named (ty.table rows) h = h.1
  rows_of_named (ty.union o s rows) h = h.1
  rows_of_named ty.bool h = tt
  rows_of_named _ h = tt

  -- and at most one member of a layout
  pub single_member : (index : ℕ) → index < (header_of b).entries → (i j : ℕ) (x y : Member)
      → Det (AMember (declarations_of b) (members_of b index) i x) (AMember (declarations_of b) (members_of b index) j y) ((i ≡ j) × (x ≡ y))
  single_member index lt i j x y = only_member AnyNames (declarations_of b) table_named (members_of b index) i j x y (rows_of_named (term_of b (header_of b) (entry_at b index)) (entry_named AnyNames (λ i p. tt) index lt))
