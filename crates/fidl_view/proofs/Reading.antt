-- What the parts of a value that a view shows are.
use Rattle.std.proofs.Common.{◌≡◌, ℕ, true, false, ℤ, List, get_or, refl, sym, ap, subst, ◌∙◌}
use Rattle.std.specs.Prelude.{Bool, Option, Some, None, ◌==◌}
use Rattle.fidl_wire.specs.Value.{Value, absent, bool, number, text, handle, list, fields, table, union}
use Rattle.fidl_wire.specs.declared.handle.HandleInfo.{HandleInfo}
use Rattle.fidl_wire.specs.Term.{Term, Kind, int8, int16, int32, int64, uint8, uint16, uint32, uint64}
use Rattle.fidl_wire.specs.Term as ty
use Rattle.fidl_wire.specs.Figure.{Declarations}
use Rattle.fidl_wire.specs.Typed.{IsTyped}
use Rattle.fidl_wire.specs.Encoding.{Encoding, inline_only, number_bytes, encoding_of}
use Rattle.fidl_wire.specs.Standing.{Stands}
use Rattle.fidl_table_format.specs.declared.record.Header.{Header}
use Rattle.fidl_table_format.specs.declared.record.Entry.{Entry}
use Rattle.fidl_table_format.specs.declared.kind.EntryKind.{EntryKind}
use Rattle.fidl_table_format.specs.declared.kind.EntryKind.TheVariants.{Bool as Boolean, Bits, Enum, String, Handle}
use Rattle.fidl_table_format.specs.Terms.{is_optional, is_strict, term_as, fields_from, rows_from, underlying, mask_of, strict_values}
use Rattle.fidl_view.specs.Parts.{bool_of, numbers_of, unsigned_of, signed_of}
use Rattle.fidl_view.specs.Numbers.{unsigned_in, signed_in, unsigned_at, signed_at}
use Rattle.fidl_view.proofs.Sorts.{by_sort}
use Rattle.fidl_table_format.specs.Number.{number_standing}
use Rattle.fidl_decode_model.proofs.Numbers.{number_is}
use Rattle.fidl_decode_model.proofs.Scalars.{Numeric, numeric_number, numeric_bits, numeric_enum}

module _ (ds : Declarations) (t : List ℕ) (h : Header) (d : Entry) (m : List ℕ) (p : ℕ) where
  -- the value is one of the kind, and stands at the place
  abbrev pub Stood : EntryKind → Value → Type 0
  Stood k v = IsTyped ds (term_as k t h d) v × Stands m p (encoding_of ds (term_as k t h d) v).inline

  -- a fact of all numbers holds of each value of bits and enums
  of_numbers : (Q : Value → Type 0) → ((z : ℤ) → Q (number z)) → (u : Term) (kind : Kind) (P : ℤ → Type 0) → Numeric ds u kind P → (v : Value) → IsTyped ds u v → Q v
  of_numbers Q all u kind P num v x = let r = num.only v x in subst Q (sym r.1) (all r.0)

  of_bits : (Q : Value → Type 0) → ((z : ℤ) → Q (number z)) → (v : Value) → IsTyped ds (term_as Bits t h d) v → Q v
  of_bits Q all = of_numbers Q all _ _ _ (numeric_bits ds (underlying d) (mask_of d))

  of_enum : (Q : Value → Type 0) → ((z : ℤ) → Q (number z)) → (v : Value) → IsTyped ds (term_as Enum t h d) v → Q v
  of_enum Q all = of_numbers Q all _ _ _ (numeric_enum ds (underlying d) (strict_values t h d))

  -- a fact of texts, or of handles, and of what is absent holds of each value of a string, or of a handle
  of_string : (Q : Value → Type 0) → ((bytes : List ℕ) → Q (text bytes)) → Q absent → (v : Value) → IsTyped ds (term_as String t h d) v → Q v
  of_string Q all lacks (text bytes) x = all bytes
  of_string Q all lacks absent x = lacks
  of_string Q all lacks _ x = absurd x

  of_handle : (Q : Value → Type 0) → ((i : HandleInfo) → Q (handle i)) → Q absent → (v : Value) → IsTyped ds (term_as Handle t h d) v → Q v
  of_handle Q all lacks (handle i) x = all i
  of_handle Q all lacks absent x = lacks
  of_handle Q all lacks _ x = absurd x

  -- a bool
  pub bool_is : (v : Value) → Stood Boolean v → Some (get_or m p 0 == 1) ≡ bool_of v
  bool_is (bool true) s = let e : get_or m p 0 ≡ 1 = s.1.1 in ap (λ n. Some (n == 1)) e
  bool_is (bool false) s = let e : get_or m p 0 ≡ 0 = s.1.1 in ap (λ n. Some (n == 1)) e
  bool_is _ s = absurd s.0

  number_no_bool : (kind : Kind) (v : Value) → IsTyped ds (ty.number kind) v → None ≡ bool_of v
  number_no_bool kind (number z) x = refl
  number_no_bool kind _ x = absurd x

  array_no_bool : (u : Term) (n : ℕ) (v : Value) → IsTyped ds (ty.array u n) v → None ≡ bool_of v
  array_no_bool u n (list vs) x = refl
  array_no_bool u n _ x = absurd x

  vector_no_bool : (optional : Bool) (bound : ℕ) (u : Term) (v : Value) → IsTyped ds (ty.vector optional bound u) v → None ≡ bool_of v
  vector_no_bool optional bound u (list vs) x = refl
  vector_no_bool optional bound u absent x = refl
  vector_no_bool optional bound u _ x = absurd x

  box_no_bool : (u : Term) (v : Value) → IsTyped ds (ty.box u) v → None ≡ bool_of v
  box_no_bool u (fields vs) x = refl
  box_no_bool u absent x = refl
  box_no_bool u _ x = absurd x

  struct_no_bool : (fs : ty.Fields) (v : Value) → IsTyped ds (ty.struct fs) v → None ≡ bool_of v
  struct_no_bool fs (fields vs) x = refl
  struct_no_bool fs _ x = absurd x

  table_no_bool : (rows : ty.Rows) (v : Value) → IsTyped ds (ty.table rows) v → None ≡ bool_of v
  table_no_bool rows (table n ms) x = refl
  table_no_bool rows _ x = absurd x

  union_no_bool : (optional strict : Bool) (rows : ty.Rows) (v : Value) → IsTyped ds (ty.union optional strict rows) v → None ≡ bool_of v
  union_no_bool optional strict rows (union ordinal m) x = refl
  union_no_bool optional strict rows absent x = refl
  union_no_bool optional strict rows _ x = absurd x

  pub no_bool : (k : EntryKind) → (k ≡ Boolean → ⊥) → (v : Value) → Stood k v → None ≡ bool_of v
  no_bool k other v s = by_sort (λ k. (k ≡ Boolean → ⊥) → (v : Value) → IsTyped ds (term_as k t h d) v → None ≡ bool_of v)
      (λ other v x. absurd (other refl))
      (λ other. array_no_bool (ty.named d.first) d.count)
      (λ other. struct_no_bool (fields_from t h d.first d.count))
      (λ other. of_bits (λ v. None ≡ bool_of v) (λ z. refl))
      (λ other. of_enum (λ v. None ≡ bool_of v) (λ z. refl))
      (λ other. number_no_bool int8)
      (λ other. number_no_bool int16)
      (λ other. number_no_bool int32)
      (λ other. number_no_bool int64)
      (λ other. number_no_bool uint8)
      (λ other. number_no_bool uint16)
      (λ other. number_no_bool uint32)
      (λ other. number_no_bool uint64)
      (λ other. of_string (λ v. None ≡ bool_of v) (λ bytes. refl) refl)
      (λ other. of_handle (λ v. None ≡ bool_of v) (λ i. refl) refl)
      (λ other. vector_no_bool (is_optional d) d.bound (ty.named d.first))
      (λ other. box_no_bool (ty.named d.first))
      (λ other. table_no_bool (rows_from t h d.first d.count))
      (λ other. union_no_bool (is_optional d) (is_strict d) (rows_from t h d.first d.count)) k other v s.0

  -- ---- numbers

  -- a number of a kind that stands at the place
  number_there : (u : Term) (kind : Kind) (P : ℤ → Type 0) → Numeric ds u kind P → (v : Value) → IsTyped ds u v × Stands m p (encoding_of ds u v).inline → (z : ℤ) × (v ≡ number z) × (number_standing kind m p ≡ z)
  number_there u kind P num v s =
      let r = num.only v s.0 in
      let enc : encoding_of ds u v ≡ inline_only (number_bytes kind r.0) = ap (λ (x : Value). encoding_of ds u x) r.1 ∙ ap (λ (k : Kind). inline_only (number_bytes k r.0)) num.own in
      (r.0, r.1, number_is kind m p r.0 r.2 (subst (λ (e : Encoding). Stands m p e.inline) enc s.1))

  -- what is read there is the number, for a type that reads numbers of the kind
  read_there : {A : Type 0} (of : Term → Value → Option A) (in' : Kind → ℤ → Option A) (u : Term) (kind : Kind) (P : ℤ → Type 0) → Numeric ds u kind P → ((z : ℤ) → of u (number z) ≡ in' kind z)
      → (v : Value) → IsTyped ds u v × Stands m p (encoding_of ds u v).inline → in' kind (number_standing kind m p) ≡ of u v
  read_there of in' u kind P num reads v s =
      let r = number_there u kind P num v s in
      ap (λ z. in' kind z) r.2 ∙ sym (reads r.0) ∙ ap (λ (x : Value). of u x) (sym r.1)

  module _ {A : Type 0} (of : Term → Value → Option A) (in' : Kind → ℤ → Option A) (reads : (kind : Kind) (z : ℤ) → of (ty.number kind) (number z) ≡ in' kind z) where
    of_number : (kind : Kind) (v : Value) → IsTyped ds (ty.number kind) v × Stands m p (encoding_of ds (ty.number kind) v).inline → in' kind (number_standing kind m p) ≡ of (ty.number kind) v
    of_number kind = read_there of in' (ty.number kind) kind (λ z. Unit {0}) (numeric_number ds kind) (reads kind)

  pub unsigned_is : (k : EntryKind) → (v : Value) → Stood k v → unsigned_at (numbers_of (term_as k t h d)) m p ≡ unsigned_of (term_as k t h d) v
  unsigned_is k v s = by_sort (λ k. (v : Value) → Stood k v → unsigned_at (numbers_of (term_as k t h d)) m p ≡ unsigned_of (term_as k t h d) v)
      (λ v s. refl) (λ v s. refl) (λ v s. refl)
      (read_there unsigned_of unsigned_in _ _ _ (numeric_bits ds (underlying d) (mask_of d)) (λ z. refl))
      (read_there unsigned_of unsigned_in _ _ _ (numeric_enum ds (underlying d) (strict_values t h d)) (λ z. refl))
      (one int8) (one int16) (one int32) (one int64) (one uint8) (one uint16) (one uint32) (one uint64) (λ v s. refl) (λ v s. refl) (λ v s. refl) (λ v s. refl) (λ v s. refl) (λ v s. refl) k v s
    where
      one : (kind : Kind) (v : Value) → IsTyped ds (ty.number kind) v × Stands m p (encoding_of ds (ty.number kind) v).inline → unsigned_in kind (number_standing kind m p) ≡ unsigned_of (ty.number kind) v
      one = of_number unsigned_of unsigned_in (λ kind z. refl)

  pub signed_is : (k : EntryKind) → (v : Value) → Stood k v → signed_at (numbers_of (term_as k t h d)) m p ≡ signed_of (term_as k t h d) v
  signed_is k v s = by_sort (λ k. (v : Value) → Stood k v → signed_at (numbers_of (term_as k t h d)) m p ≡ signed_of (term_as k t h d) v)
      (λ v s. refl) (λ v s. refl) (λ v s. refl)
      (read_there signed_of signed_in _ _ _ (numeric_bits ds (underlying d) (mask_of d)) (λ z. refl))
      (read_there signed_of signed_in _ _ _ (numeric_enum ds (underlying d) (strict_values t h d)) (λ z. refl))
      (one int8) (one int16) (one int32) (one int64) (one uint8) (one uint16) (one uint32) (one uint64) (λ v s. refl) (λ v s. refl) (λ v s. refl) (λ v s. refl) (λ v s. refl) (λ v s. refl) k v s
    where
      one : (kind : Kind) (v : Value) → IsTyped ds (ty.number kind) v × Stands m p (encoding_of ds (ty.number kind) v).inline → signed_in kind (number_standing kind m p) ≡ signed_of (ty.number kind) v
      one = of_number signed_of signed_in (λ kind z. refl)
