-- Bools and numbers, by the values that stand at a place.
use Rattle.std.proofs.Common.{◌≡◌, ℕ, ℤ, ◌+◌, ◌<◌, ◌≤◌, Bool, true, false, List, length, slice_index, get_or, refl, sym, ap, subst, ◌∙◌, arith}
use Rattle.std.specs.Prelude.{Some, ◌==◌}
use Rattle.std.specs.Int.{byte_len}
use Rattle.fidl_wire.specs.Value.{Value, bool, number}
use Rattle.fidl_wire.specs.Term.{Term, Kind, width, int8, int16, int32, int64, uint8, uint16, uint32, uint64}
use Rattle.fidl_wire.specs.Term as ty
use Rattle.fidl_wire.specs.Figure.{Declarations}
use Rattle.fidl_wire.specs.Typed.{IsTyped}
use Rattle.fidl_wire.specs.Encoding.{Encoding, encoding_of, inline_only, number_bytes}
use Rattle.fidl_wire.specs.Standing.{Stands}
use Rattle.fidl_table_format.specs.declared.kind.EntryKind.{EntryKind}
use Rattle.fidl_table_format.specs.declared.kind.EntryKind.TheVariants.{Bool as Boolean, Int8, Int16, Int32, Int64, Uint8, Uint16, Uint32, Uint64, Bits, Enum, String, Vector, Array, Box, Struct, Table, Union, Handle}
use Rattle.fidl_table_format.specs.Number.{number_standing}
use Rattle.fidl_table_format.specs.Terms.{declarations_of, as_number}
use Rattle.fidl_links.specs.Links.{Written, IsFree}
use Rattle.fidl_decode_model.specs.Links.{Linked, noted}
use Rattle.fidl_decode_model.specs.Model.{Shown}
use Rattle.fidl_decode_model.specs.Faults.{message_of}
use Rattle.fidl_decode_model.specs.Readable.{Readable, AreUnlinked}
use Rattle.fidl_decode_model.proofs.Numbers.{number_is}
use Rattle.fidl_decode_model.proofs.Objects.{stands_within}
use Rattle.fidl_decode_model.proofs.Scalars.{Numeric, numeric_number, numeric_bits, numeric_enum}
use Rattle.fidl_view.specs.Parts.{numbers_of}
use Rattle.fidl_view.specs.Shows.{Shows, type_of}
use Rattle.fidl_view.proofs.Unlinked.{number_free}
use Rattle.fidl_view.proofs.Unlinked as unlinked
use Rattle.fidl_view.proofs.Finding.{inline_of}
use Rattle.fidl_view.proofs.Sorts.{by_sort}
use Rattle.fidl_members.specs.Scalars.{number_kind, scalar_of, scalar_size, value_standing}

-- a value stands at a place, where it can be read as this kind
pub record IsRead (m : List ℕ) (l : Linked) (p : ℕ) (k : EntryKind) (v : Value) : Type 0 where
  pub value : v ≡ value_standing k m p
  pub room : p + scalar_size k ≤ length m
  pub free : AreUnlinked l p (p + scalar_size k)

number_read : (kind : Kind) (m : List ℕ) (p : ℕ) → number (number_standing kind m p) ≡ value_standing (number_kind kind) m p
number_read int8 m p = refl
number_read int16 m p = refl
number_read int32 m p = refl
number_read int64 m p = refl
number_read uint8 m p = refl
number_read uint16 m p = refl
number_read uint32 m p = refl
number_read uint64 m p = refl

number_size : (kind : Kind) → byte_len (width kind) ≡ scalar_size (number_kind kind)
number_size int8 = refl
number_size int16 = refl
number_size int32 = refl
number_size int64 = refl
number_size uint8 = refl
number_size uint16 = refl
number_size uint32 = refl
number_size uint64 = refl

number_long : (kind : Kind) (z : ℤ) → length (number_bytes kind z) ≡ byte_len (width kind)
number_long int8 z = refl
number_long int16 z = refl
number_long int32 z = refl
number_long int64 z = refl
number_long uint8 z = refl
number_long uint16 z = refl
number_long uint32 z = refl
number_long uint64 z = refl

some_byte : (kind : Kind) → 1 ≤ byte_len (width kind)
some_byte int8 = omega arith
some_byte int16 = omega arith
some_byte int32 = omega arith
some_byte int64 = omega arith
some_byte uint8 = omega arith
some_byte uint16 = omega arith
some_byte uint32 = omega arith
some_byte uint64 = omega arith

module _ (ds : Declarations) (m : List ℕ) (l : Linked) (p : ℕ) where
  abbrev pub Stood : Term → Value → Type 0
  Stood t v = IsTyped ds t v × Stands m p (encoding_of ds t v).inline × Readable ds l t p v

  of_number : (t : Term) (kind : Kind) (P : ℤ → Type 0) → Numeric ds t kind P → numbers_of t ≡ Some kind → (v : Value) → Stood t v → IsRead m l p (number_kind kind) v
  of_number t kind P num is v s =
      let r = num.only v s.0 in
      let enc : encoding_of ds t v ≡ inline_only (number_bytes kind r.0) = ap (λ (x : Value). encoding_of ds t x) r.1 ∙ ap (λ (k : Kind). inline_only (number_bytes k r.0)) num.own in
      let stands = subst (λ (e : Encoding). Stands m p e.inline) enc s.1 in
      let long = number_long kind r.0 in
      let size = number_size kind in
      record {
        value = r.1 ∙ ap (λ (z : ℤ). number z) (sym (number_is kind m p r.0 r.2 stands)) ∙ number_read kind m p;
        room = omega (arith, stands_within m p (number_bytes kind r.0) stands, long, size, some_byte kind);
        free = subst (λ n. AreUnlinked l p (p + n)) size (number_free ds l t p kind is v s.0 s.2);
      }

  as_kind : (t : Term) (kind : Kind) (k : EntryKind) → Some (number_kind kind) ≡ Some k → (v : Value) → IsRead m l p (number_kind kind) v → IsRead m l p k v
  as_kind t kind k e v r = let same : number_kind kind ≡ k = cc in subst (λ (own : EntryKind). IsRead m l p own v) same r

  of_bool : (b : Bool) → Stood ty.bool (bool b) → IsRead m l p Boolean (bool b)
  of_bool true s = let is : get_or m p 0 ≡ 1 = s.1.1 in
      record { value = ap (λ n. bool (n == 1)) (sym is); room = omega (arith, s.1.0); free = s.2 }
  of_bool false s = let is : get_or m p 0 ≡ 0 = s.1.1 in
      record { value = ap (λ n. bool (n == 1)) (sym is); room = omega (arith, s.1.0); free = s.2 }

  -- a value of a type that is read as a kind stands there so
  pub read_there : (t : Term) (k : EntryKind) → scalar_of t ≡ Some k → (v : Value) → Stood t v → IsRead m l p k v
  read_there (ty.number own) k is v s = as_kind (ty.number own) own k is v (of_number (ty.number own) own _ (numeric_number ds own) refl v s)
  read_there (ty.bits own mask) k is v s = as_kind (ty.bits own mask) own k is v (of_number (ty.bits own mask) own _ (numeric_bits ds own mask) refl v s)
  read_there (ty.enum own values) k is v s = as_kind (ty.enum own values) own k is v (of_number (ty.enum own values) own _ (numeric_enum ds own values) refl v s)
  read_there ty.bool k is (bool b) s = let same : Boolean ≡ k = cc in subst (λ (own : EntryKind). IsRead m l p own (bool b)) same (of_bool b s)
  read_there ty.bool k is _ s = absurd s.0
  read_there _ k is v s = cc

-- what is read of a message with links is what came, where no link stands
module _ (w : Written) (bytes : List ℕ) (l : Linked) (came : w.came ≡ bytes) (same : noted w ≡ l) (raw : List ℕ) (long : length raw ≡ length w.came) (agree : (k : ℕ) → k < length w.came → IsFree w k → slice_index raw k ≡ slice_index w.came k) (p : ℕ) where
  abbrev Same : EntryKind → Type 0
  Same k = p + scalar_size k ≤ length bytes → AreUnlinked l p (p + scalar_size k) → value_standing k raw p ≡ value_standing k bytes p

  numbers_same : (k : EntryKind) → p + byte_len (width (as_number k)) ≤ length bytes → AreUnlinked l p (p + byte_len (width (as_number k)))
      → number (number_standing (as_number k) raw p) ≡ number (number_standing (as_number k) bytes p)
  numbers_same k room none = ap (λ (z : ℤ). number z) (unlinked.standing_same w bytes l came same raw long agree (as_number k) p room none)

  pub same_read : (k : EntryKind) → p + scalar_size k ≤ length bytes → AreUnlinked l p (p + scalar_size k) → value_standing k raw p ≡ value_standing k bytes p
  same_read = by_sort Same
      (λ room none. ap (λ n. bool (n == 1)) (unlinked.byte_same w bytes l came same raw long agree p room none))
      (numbers_same Array) (numbers_same Struct) (numbers_same Bits) (numbers_same Enum)
      (numbers_same Int8) (numbers_same Int16) (numbers_same Int32) (numbers_same Int64) (numbers_same Uint8) (numbers_same Uint16) (numbers_same Uint32) (numbers_same Uint64)
      (numbers_same String) (numbers_same Handle) (numbers_same Vector) (numbers_same Box) (numbers_same Table) (numbers_same Union)

-- the value that a view shows, where it is read as a kind
pub shown_read : (d : Shown) (index place : ℕ) (k : EntryKind) → scalar_of (type_of d index) ≡ Some k → (v : Value) → Shows d index place v → IsRead d.bytes d.links place k v
shown_read d index place k is v s =
    let ds = declarations_of d.table in
    read_there ds d.bytes d.links place (type_of d index) k is v (s.typed, inline_of ds (message_of d.bytes d.handles) d.links (type_of d index) place v s.placed, s.readable)
