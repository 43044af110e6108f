-- What a view of a well-formed table rests on.
use Rattle.std.specs.Int.{w64, byte_len}
use Rattle.std.specs.Option.{option_map_or}
use Rattle.std.proofs.Common.{◌≡◌, ℕ, List, ◌+◌, ◌-◌, ◌<◌, ◌≤◌, true, length, refl, sym, ap, subst, ◌∙◌, arith, inl, inr, length-append}
use Rattle.std.specs.Prelude.{◌⊎◌, Option, Some, None, false, IsTrue, is_some, unwrap_or, [], slice_range, take, drop}
use Rattle.fidl_limits.specs.declared.limits.TheConstants.{MAX_MESSAGE_BYTES}
use Rattle.fidl_wire.specs.declared.handle.HandleInfo.{HandleInfo}
use Rattle.fidl_wire.specs.Value.{Value, bool, table as a_table}
use Rattle.fidl_wire.specs.Term.{Term, Kind, width, int8, int16, int32, int64, uint8, uint16, uint32, uint64}
use Rattle.fidl_wire.specs.Term as ty
use Rattle.fidl_wire.specs.Figure.{Figure, size_of}
use Rattle.fidl_wire.specs.Typed.{IsTyped}
use Rattle.fidl_wire.specs.Encoding.{encoding_of, object, pad8}
use Rattle.fidl_wire.specs.Standing.{Stands}
use Rattle.fidl_wire.proofs.Sizes.{le-next_multiple_of}
use Rattle.fidl_table_format.specs.declared.kind.EntryKind.{EntryKind}
use Rattle.fidl_table_format.specs.declared.kind.EntryKind.TheVariants.{Bool as Boolean, String, Vector, Box, Table, Handle, Union, Int8, Int16, Int32, Int64, Uint8, Uint16, Uint32, Uint64, Bits, Enum}
use Rattle.fidl_table_format.specs.Section.{header_of, entry_at}
use Rattle.fidl_wire.specs.Field.{number_at}
use Rattle.fidl_table_format.specs.Kind.{kind_of, number_type}
use Rattle.fidl_table_format.specs.Terms.{is_optional, is_strict, rows_from, declarations_of, term_as, as_number, underlying}
use Rattle.fidl_table_format.specs.Uses.{is_number, is_unsigned}
use Rattle.fidl_table_format.specs.Entry.{IsOf, subtype_is}
use Rattle.fidl_table_format.specs.WellFormed.{WellFormed}
use Rattle.fidl_decode_model.specs.Model.{Shown}
use Rattle.fidl_decode_model.specs.Invariants.{IsFine}
use Rattle.fidl_decode_model.proofs.Bridge.{fine_of}
use Rattle.fidl_decode_model.proofs.Visiting.{fine_as, term_is, figure_is, size_is, positive}
use Rattle.fidl_wire.specs.Message.{IsEncoding, Encodes}
use Rattle.fidl_decode_model.specs.State.{Message}
use Rattle.fidl_decode_model.proofs.Messages.{message_item}
use Rattle.fidl_view.specs.Numbers.{unsigned_at, signed_at}
use Rattle.fidl_view.specs.Parts.{absence_of, numbers_of, unsigned_of, signed_of, handle_of, rights_of, granted_of}
use Rattle.fidl_view.specs.Views.{IsEncoded, IsOnly, elements_at, bytes_at}
use Rattle.fidl_view.specs.Shows.{Shows, type_of}
use Rattle.fidl_view.proofs.Sorts.{by_sort}
use Rattle.fidl_view.proofs.Content.{TextThere, text_found, granted_is}
use Rattle.fidl_view.proofs.Content as content
use Rattle.fidl_view.proofs.Unlinked.{number_free}
use Rattle.fidl_view.proofs.Finding.{inline_of}
use Rattle.fidl_wire.proofs.Unique.{one_value}
use Rattle.fidl_verify.proofs.Declared.{sound}
use Rattle.fidl_decode_model.specs.Faults.{message_of}
use Rattle.fidl_decode_model.specs.Placed.{object_at, Placed}
use Rattle.fidl_decode_model.specs.Readable.{Readable, AreUnlinked, StandsIn}
use Rattle.fidl_view.proofs.Reading.{Stood, unsigned_is, signed_is}

pub unknown_none : false ≡ true → ⊥
unknown_none e = cc

-- a message has room for its primary object, and is no longer than a message may be
pub message_room : (d : Shown) → WellFormed d.table → (index : ℕ) → index ≡ d.entry → index < (header_of d.table).entries → IsEncoding (declarations_of d.table) (ty.named d.entry) d.bytes d.handles
    → (0 + (entry_at d.table index).size ≤ length d.bytes) × (length d.bytes ≤ MAX_MESSAGE_BYTES)
message_room d w index same lt x =
    let y = subst (λ k. IsEncoding (declarations_of d.table) (ty.named k) d.bytes d.handles) (sym same) x in
    let m : Message = record { bytes = d.bytes; handles = d.handles } in
    let r = message_item d.table (fine_of d.table w) m index lt [] [] y in
    (omega (arith, r.0, le-next_multiple_of (entry_at d.table index).size 8), x.1.short)

-- a value that a message encodes is the one that stands in it, since only one has its message
pub message_shown : (d : Shown) → WellFormed d.table → (index : ℕ) → index ≡ d.entry → StandsIn (declarations_of d.table) (ty.named d.entry) d.bytes d.handles d.links
    → (v : Value) → Encodes (declarations_of d.table) (ty.named d.entry) v d.bytes d.handles → Shows d index 0 v
message_shown d w index same x v y =
    let ds = declarations_of d.table in
    let one : x.0 ≡ v = one_value ds (sound d.table w) (ty.named d.entry) tt x.0 v d.bytes d.handles x.1 y in
    let placed = subst (λ (u : Value). Placed ds (message_of d.bytes d.handles) d.links (type_of d d.entry) 0 u) one x.2 in
    let e = encoding_of ds (type_of d d.entry) v in
    let long : length (object e) ≡ length d.bytes = ap (λ (m : List ℕ × List HandleInfo). length m.0) y.message in
    let readable = subst (λ (u : Value). Readable ds d.links (type_of d d.entry) 0 u) one x.3 in
    let whole : Shows d d.entry 0 v = record { typed = y.typed; placed = placed; readable = readable; within = omega (arith, long, length-append (pad8 e.inline) e.out) } in
    subst (λ k. Shows d k 0 v) (sym same) whole

-- which is the only one
pub message_value : (d : Shown) → WellFormed d.table → (index : ℕ) → index ≡ d.entry → StandsIn (declarations_of d.table) (ty.named d.entry) d.bytes d.handles d.links
    → (v : Value) × IsOnly (IsEncoded d) v × Shows d index 0 v
message_value d w index same x =
    let ds = declarations_of d.table in
    let only : (u : Value) → IsEncoded d u → u ≡ x.0 = λ u y. one_value ds (sound d.table w) (ty.named d.entry) tt u x.0 d.bytes d.handles y x.1 in
    (x.0, record { holds = x.1; only = only }, message_shown d w index same x x.0 x.1)

-- the same, by what the decoded message was made of
pub value_of : (d : Shown) (table : List ℕ) (entry : ℕ) (bytes : List ℕ) (handles : List HandleInfo) → d.table ≡ table → d.entry ≡ entry → d.bytes ≡ bytes → d.handles ≡ handles
    → (Q : Value → Type 0) → (v : Value) × IsOnly (IsEncoded d) v × Q v
    → (v : Value) × IsOnly (λ w. Encodes (declarations_of table) (ty.named entry) w bytes handles) v × Q v
value_of d table entry bytes handles t e b h Q x =
    let one = subst (λ (m : List ℕ). (v : Value) × IsOnly (λ w. Encodes (declarations_of m) (ty.named d.entry) w d.bytes d.handles) v × Q v) t x in
    let two = subst (λ k. (v : Value) × IsOnly (λ w. Encodes (declarations_of table) (ty.named k) w d.bytes d.handles) v × Q v) e one in
    let three = subst (λ (m : List ℕ). (v : Value) × IsOnly (λ w. Encodes (declarations_of table) (ty.named entry) w m d.handles) v × Q v) b two in
    subst (λ (hs : List HandleInfo). (v : Value) × IsOnly (λ w. Encodes (declarations_of table) (ty.named entry) w bytes hs) v × Q v) h three

module _ (d : Shown) (w : WellFormed d.table) (index place : ℕ) (lt : index < (header_of d.table).entries) where
  abbrev fine : IsFine d.table
  fine = fine_of d.table w

  -- the value stands as its kind says
  pub stood : (k : EntryKind) → IsOf k (entry_at d.table index) → (v : Value) → Shows d index place v → Stood (declarations_of d.table) d.table (header_of d.table) (entry_at d.table index) d.bytes place k v
  stood k is v s =
      let ds = declarations_of d.table in
      let e = term_is d.table fine index k lt is in
      let own = inline_of ds (message_of d.bytes d.handles) d.links (type_of d index) place v s.placed in
      (subst (λ (u : Term). IsTyped ds u v) e s.typed, subst (λ (u : Term). Stands d.bytes place (encoding_of ds u v).inline) e own)

  -- with all below it where the links say, and can be read there
  abbrev pub Lies : EntryKind → Value → Type 0
  Lies k v =
      let ds = declarations_of d.table in
      let t = term_as k d.table (header_of d.table) (entry_at d.table index) in
      IsTyped ds t v × Placed ds (message_of d.bytes d.handles) d.links t place v × Readable ds d.links t place v

  pub lies : (k : EntryKind) → IsOf k (entry_at d.table index) → (v : Value) → Shows d index place v → Lies k v
  lies k is v s =
      let ds = declarations_of d.table in
      let e = term_is d.table fine index k lt is in (
        subst (λ (u : Term). IsTyped ds u v) e s.typed,
        subst (λ (u : Term). Placed ds (message_of d.bytes d.handles) d.links u place v) e s.placed,
        subst (λ (u : Term). Readable ds d.links u place v) e s.readable,
      )

  -- its marker, of a box at its place, of a string, a vector and a table behind the count
  abbrev pub Marks : (q : ℕ) → Value → Type 0
  Marks q v = content.Marked (declarations_of d.table) (message_of d.bytes d.handles) d.links place q v

  pub box_marks : IsOf Box (entry_at d.table index) → (v : Value) → Shows d index place v → Marks place v
  box_marks is v s = content.box_marked (declarations_of d.table) (message_of d.bytes d.handles) d.links place (ty.named (entry_at d.table index).first) v (lies Box is v s)

  pub string_marks : IsOf String (entry_at d.table index) → (v : Value) → Shows d index place v → Marks (place + 8) v
  string_marks is v s = let e = entry_at d.table index in content.string_marked (declarations_of d.table) (message_of d.bytes d.handles) d.links place (is_optional e) e.bound v (lies String is v s)

  pub vector_marks : IsOf Vector (entry_at d.table index) → (v : Value) → Shows d index place v → Marks (place + 8) v
  vector_marks is v s = let e = entry_at d.table index in content.vector_marked (declarations_of d.table) (message_of d.bytes d.handles) d.links place (is_optional e) e.bound (ty.named e.first) v (lies Vector is v s)

  pub table_marks : IsOf Table (entry_at d.table index) → (v : Value) → Shows d index place v → Marks (place + 8) v
  table_marks is v s =
      let e = entry_at d.table index in
      content.table_marked (declarations_of d.table) (message_of d.bytes d.handles) d.links place (rows_from d.table (header_of d.table) e.first e.count) v (lies Table is v s)

  pub table_there : IsOf Table (entry_at d.table index) → (v : Value) → Shows d index place v → false ≡ absence_of v
  table_there is v s = go v (lies Table is v s).0
    where
      go : (v : Value) → IsTyped (declarations_of d.table) (term_as Table d.table (header_of d.table) (entry_at d.table index)) v → false ≡ absence_of v
      go (a_table n ms) x = refl
      go _ x = absurd x

  pub handle_shown : IsOf Handle (entry_at d.table index) → (v : Value) → Shows d index place v → content.HandleThere (declarations_of d.table) (message_of d.bytes d.handles) d.links place v
  handle_shown is v s =
      let e = entry_at d.table index in
      content.handle_there (declarations_of d.table) (message_of d.bytes d.handles) d.links place (is_optional e) e.subtype e.rights v (lies Handle is v s)

  -- no link stands over a bool, a count and an ordinal
  pub bool_free : IsOf Boolean (entry_at d.table index) → (v : Value) → Shows d index place v → AreUnlinked d.links place (place + 1)
  bool_free is v s = go v (lies Boolean is v s)
    where
      go : (v : Value) → Lies Boolean v → AreUnlinked d.links place (place + 1)
      go (bool b) x = x.2
      go _ x = absurd x.0

  pub string_count_free : IsOf String (entry_at d.table index) → (v : Value) → Shows d index place v → AreUnlinked d.links place (place + 8)
  string_count_free is v s =
      let e = entry_at d.table index in
      content.string_count_free (declarations_of d.table) (message_of d.bytes d.handles) d.links place (is_optional e) e.bound v (lies String is v s)

  pub vector_count_free : IsOf Vector (entry_at d.table index) → (v : Value) → Shows d index place v → AreUnlinked d.links place (place + 8)
  vector_count_free is v s =
      let e = entry_at d.table index in
      content.vector_count_free (declarations_of d.table) (message_of d.bytes d.handles) d.links place (is_optional e) e.bound (ty.named e.first) v (lies Vector is v s)

  pub table_count_free : IsOf Table (entry_at d.table index) → (v : Value) → Shows d index place v → AreUnlinked d.links place (place + 8)
  table_count_free is v s =
      let e = entry_at d.table index in
      content.table_count_free (declarations_of d.table) (message_of d.bytes d.handles) d.links place (rows_from d.table (header_of d.table) e.first e.count) v (lies Table is v s)

  pub ordinal_free : IsOf Union (entry_at d.table index) → (v : Value) → Shows d index place v → AreUnlinked d.links place (place + 8)
  ordinal_free is v s =
      let e = entry_at d.table index in
      content.ordinal_free (declarations_of d.table) (message_of d.bytes d.handles) d.links place (is_optional e) (is_strict e) (rows_from d.table (header_of d.table) e.first e.count) v (lies Union is v s)

  -- nor over a number
  pub number_unlinked : (kind : Kind) → numbers_of (type_of d index) ≡ Some kind → (v : Value) → Shows d index place v → AreUnlinked d.links place (place + byte_len (width kind))
  number_unlinked kind is v s = number_free (declarations_of d.table) d.links (type_of d index) place kind is v s.typed s.readable

  -- and what it has out of line is no longer than the message
  pub lies_within : (k : EntryKind) → IsOf k (entry_at d.table index) → (v : Value) → Shows d index place v → length (encoding_of (declarations_of d.table) (term_as k d.table (header_of d.table) (entry_at d.table index)) v).out ≤ length d.bytes
  lies_within k is v s = subst (λ (u : Term). length (encoding_of (declarations_of d.table) u v).out ≤ length d.bytes) (term_is d.table fine index k lt is) s.within

  pub has_byte : 0 < (entry_at d.table index).size
  has_byte = let p = positive d.table fine index lt in let s = size_is d.table fine index lt in omega arith

  -- the kind of a part, and its term
  pub kind_there : (k : EntryKind) × IsOf k (entry_at d.table index)
  kind_there = let f = fine.each index lt in (f.0, f.1.is)

  pub own_type : (k : EntryKind) → IsOf k (entry_at d.table index) → type_of d index ≡ term_as k d.table (header_of d.table) (entry_at d.table index)
  own_type k is = term_is d.table fine index k lt is

  -- the number of a part
  pub unsigned_shown : (v : Value) → Shows d index place v → unsigned_at (numbers_of (type_of d index)) d.bytes place ≡ unsigned_of (type_of d index) v
  unsigned_shown v s =
      let k = kind_there in
      subst (λ (u : Term). unsigned_at (numbers_of u) d.bytes place ≡ unsigned_of u v) (sym (own_type k.0 k.1))
      (unsigned_is (declarations_of d.table) d.table (header_of d.table) (entry_at d.table index) d.bytes place k.0 v (stood k.0 k.1 v s))

  pub signed_shown : (v : Value) → Shows d index place v → signed_at (numbers_of (type_of d index)) d.bytes place ≡ signed_of (type_of d index) v
  signed_shown v s =
      let k = kind_there in
      subst (λ (u : Term). signed_at (numbers_of u) d.bytes place ≡ signed_of u v) (sym (own_type k.0 k.1))
      (signed_is (declarations_of d.table) d.table (header_of d.table) (entry_at d.table index) d.bytes place k.0 v (stood k.0 k.1 v s))

  -- a string has a count and a marker
  pub string_size : IsOf String (entry_at d.table index) → 16 ≡ (entry_at d.table index).size
  string_size is = ap (λ (f : Figure). f.size) (figure_is d.table fine index String lt is)

  -- a box has a marker, and a handle its four bytes
  pub box_size : IsOf Box (entry_at d.table index) → 8 ≡ (entry_at d.table index).size
  box_size is = ap (λ (f : Figure). f.size) (figure_is d.table fine index Box lt is)

  pub handle_size : IsOf Handle (entry_at d.table index) → 4 ≡ (entry_at d.table index).size
  handle_size is = ap (λ (f : Figure). f.size) (figure_is d.table fine index Handle lt is)

  -- a vector has a count and a marker too; a union has an ordinal and an envelope
  pub vector_size : IsOf Vector (entry_at d.table index) → 16 ≡ (entry_at d.table index).size
  vector_size is = ap (λ (f : Figure). f.size) (figure_is d.table fine index Vector lt is)

  pub union_size : IsOf Union (entry_at d.table index) → 16 ≡ (entry_at d.table index).size
  union_size is = ap (λ (f : Figure). f.size) (figure_is d.table fine index Union lt is)

  -- the text of a string that is there
  abbrev pub text_part : Value → Type 0
  text_part v = TextThere (declarations_of d.table) (message_of d.bytes d.handles) d.links place v (number_at w64 d.bytes place) (object_at d.links (place + 8))

  pub text_shown : length d.bytes ≤ MAX_MESSAGE_BYTES → IsOf String (entry_at d.table index) → (v : Value) → false ≡ absence_of v → Shows d index place v → text_part v
  text_shown short is v there s =
      let e = entry_at d.table index in
      text_found (declarations_of d.table) (message_of d.bytes d.handles) d.links place short (is_optional e) e.bound v there (lies String is v s)

  -- its bytes are those of its object
  pub bytes_of_string : IsOf String (entry_at d.table index) → slice_range d.bytes (object_at d.links (place + 8)) (object_at d.links (place + 8) + number_at w64 d.bytes place) ≡ bytes_at d (type_of d index) place
  bytes_of_string is = ap (λ (t : Term). bytes_at d t place) (sym (own_type String is))

  -- none, where its count is 0
  pub no_bytes_shown : IsOf String (entry_at d.table index) → number_at w64 d.bytes place ≡ 0 → [] ≡ bytes_at d (type_of d index) place
  no_bytes_shown is zero =
      let from = object_at d.links (place + 8) in
      let none : from + number_at w64 d.bytes place - from ≡ 0 = omega (arith, zero) in
      sym (ap (λ n. take n (drop from d.bytes)) none) ∙ bytes_of_string is

  -- those of another part are those of its elements
  pub bytes_of_elements : (k : EntryKind) → IsOf k (entry_at d.table index) → (k ≡ String → ⊥) → elements_at d (type_of d index) place ≡ bytes_at d (type_of d index) place
  bytes_of_elements k is other = subst (λ (t : Term). elements_at d t place ≡ bytes_at d t place) (sym (own_type k is)) (same k other)
    where
      same : (k : EntryKind) → (k ≡ String → ⊥) → elements_at d (term_as k d.table (header_of d.table) (entry_at d.table index)) place ≡ bytes_at d (term_as k d.table (header_of d.table) (entry_at d.table index)) place
      same = by_sort (λ k. (k ≡ String → ⊥) → elements_at d (term_as k d.table (header_of d.table) (entry_at d.table index)) place ≡ bytes_at d (term_as k d.table (header_of d.table) (entry_at d.table index)) place)
          (λ o. refl) (λ o. refl) (λ o. refl) (λ o. refl) (λ o. refl)
          (λ o. refl) (λ o. refl) (λ o. refl) (λ o. refl) (λ o. refl) (λ o. refl) (λ o. refl) (λ o. refl) (λ o. absurd (o refl)) (λ o. refl) (λ o. refl) (λ o. refl) (λ o. refl) (λ o. refl)

  -- the rights that a handle is granted
  pub granted_shown : (v : Value) → Shows d index place v → (h : HandleInfo) → Some h ≡ handle_of v → Some (rights_of (entry_at d.table index).rights h) ≡ granted_of (type_of d index) v
  granted_shown v s h is =
      let k = kind_there in
      subst (λ (u : Term). Some (rights_of (entry_at d.table index).rights h) ≡ granted_of u v) (sym (own_type k.0 k.1))
      (granted_is (declarations_of d.table) d.table (header_of d.table) (entry_at d.table index) k.0 v (lies k.0 k.1 v s).0 h is)

  -- the kind of the number of a part: its own, or the underlying one of bits and enums
  own_numbers : (k : EntryKind) → (k ≡ Bits → ⊥) → (k ≡ Enum → ⊥) → number_type k ≡ numbers_of (term_as k d.table (header_of d.table) (entry_at d.table index))
  own_numbers k b e = by_sort (λ k. (k ≡ Bits → ⊥) → (k ≡ Enum → ⊥) → number_type k ≡ numbers_of (term_as k d.table (header_of d.table) (entry_at d.table index)))
      (λ b e. refl) (λ b e. refl) (λ b e. refl) (λ b e. absurd (b refl)) (λ b e. absurd (e refl))
      (λ b e. refl) (λ b e. refl) (λ b e. refl) (λ b e. refl) (λ b e. refl) (λ b e. refl) (λ b e. refl) (λ b e. refl) (λ b e. refl) (λ b e. refl) (λ b e. refl) (λ b e. refl) (λ b e. refl) (λ b e. refl) k b e

  pub numbers_else : (k : EntryKind) → IsOf k (entry_at d.table index) → (k ≡ Bits → ⊥) → (k ≡ Enum → ⊥) → number_type k ≡ numbers_of (type_of d index)
  numbers_else k is b e = own_numbers k b e ∙ sym (ap (λ (u : Term). numbers_of u) (own_type k is))

  -- the underlying kind is one of numbers
  as_type : (k : EntryKind) → IsTrue (is_number k) → number_type k ≡ Some (as_number k)
  as_type k h = go (number_type k) h
    where
      go : (o : Option Kind) → IsTrue (is_some o) → o ≡ Some (unwrap_or o uint8)
      go (Some kind) h = refl
      go None h = absurd (unknown_none h)

  -- bits and enums are of a kind of numbers, and as large as its numbers
  number_of : (o : Option EntryKind) → IsTrue (option_map_or is_unsigned o false) → IsTrue (option_map_or is_number o false)
  number_of None h = absurd (unknown_none h)
  number_of (Some Uint8) h = refl
  number_of (Some Uint16) h = refl
  number_of (Some Uint32) h = refl
  number_of (Some Uint64) h = refl
  number_of (Some _) h = absurd (unknown_none h)

  pub subtype_there : (IsOf Bits (entry_at d.table index) ⊎ IsOf Enum (entry_at d.table index)) → IsTrue (subtype_is is_number (entry_at d.table index))
  subtype_there (inl is) = number_of (kind_of (entry_at d.table index).subtype) (fine_as d.table fine index Bits lt is).content
  subtype_there (inr is) = ((w.entries index lt).shape.enum is).subtype

  -- that of the kind that their subtype is the number of
  as_stated : (k : EntryKind) → kind_of (entry_at d.table index).subtype ≡ Some k → as_number k ≡ underlying (entry_at d.table index)
  as_stated k named = sym (ap (λ (o : Option EntryKind). option_map_or as_number o uint8) named)

  numbers_stated : (IsOf Bits (entry_at d.table index) ⊎ IsOf Enum (entry_at d.table index)) → Some (underlying (entry_at d.table index)) ≡ numbers_of (type_of d index)
  numbers_stated (inl is) = sym (ap (λ (u : Term). numbers_of u) (own_type Bits is))
  numbers_stated (inr is) = sym (ap (λ (u : Term). numbers_of u) (own_type Enum is))

  pub numbers_there : (IsOf Bits (entry_at d.table index) ⊎ IsOf Enum (entry_at d.table index)) → (k : EntryKind) → kind_of (entry_at d.table index).subtype ≡ Some k → number_type k ≡ numbers_of (type_of d index)
  numbers_there either k named =
      let number = subst (λ (o : Option EntryKind). IsTrue (option_map_or is_number o false)) named (subtype_there either) in
      as_type k number ∙ ap (λ (n : Kind). Some n) (as_stated k named) ∙ numbers_stated either

  stated_size : (IsOf Bits (entry_at d.table index) ⊎ IsOf Enum (entry_at d.table index)) → byte_len (width (underlying (entry_at d.table index))) ≡ (entry_at d.table index).size
  stated_size (inl is) = ap (λ (f : Figure). f.size) (figure_is d.table fine index Bits lt is)
  stated_size (inr is) = ap (λ (f : Figure). f.size) (figure_is d.table fine index Enum lt is)

  pub fits_there : (IsOf Bits (entry_at d.table index) ⊎ IsOf Enum (entry_at d.table index)) → (k : EntryKind) → kind_of (entry_at d.table index).subtype ≡ Some k → byte_len (width (as_number k)) ≡ (entry_at d.table index).size
  fits_there either k named = ap (λ (n : Kind). byte_len (width n)) (as_stated k named) ∙ stated_size either

  pub fits_else : (k : EntryKind) → IsOf k (entry_at d.table index) → (k ≡ Bits → ⊥) → (k ≡ Enum → ⊥) → byte_len (width (as_number k)) ≤ (entry_at d.table index).size
  fits_else k is b e = by_sort (λ k. IsOf k (entry_at d.table index) → (k ≡ Bits → ⊥) → (k ≡ Enum → ⊥) → byte_len (width (as_number k)) ≤ (entry_at d.table index).size)
      (λ is b e. omega (arith, has_byte)) (λ is b e. omega (arith, has_byte)) (λ is b e. omega (arith, has_byte)) (λ is b e. absurd (b refl)) (λ is b e. absurd (e refl))
      (number Int8 int8 refl) (number Int16 int16 refl) (number Int32 int32 refl) (number Int64 int64 refl) (number Uint8 uint8 refl) (number Uint16 uint16 refl) (number Uint32 uint32 refl) (number Uint64 uint64 refl)
      (λ is b e. omega (arith, has_byte)) (λ is b e. omega (arith, has_byte)) (λ is b e. omega (arith, has_byte)) (λ is b e. omega (arith, has_byte)) (λ is b e. omega (arith, has_byte)) (λ is b e. omega (arith, has_byte)) k is b e
    where
      number : (k : EntryKind) (kind : Kind) → term_as k d.table (header_of d.table) (entry_at d.table index) ≡ ty.number kind → IsOf k (entry_at d.table index) → (k ≡ Bits → ⊥) → (k ≡ Enum → ⊥) → byte_len (width kind) ≤ (entry_at d.table index).size
      number k kind own is b e =
          let size : byte_len (width kind) ≡ (entry_at d.table index).size = ap (λ (u : Term). size_of (declarations_of d.table) u) (sym own) ∙ ap (λ (f : Figure). f.size) (figure_is d.table fine index k lt is) in
          omega (arith, size)
