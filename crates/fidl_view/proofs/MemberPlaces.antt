-- The members of structs and of the structs in boxes.
use Rattle.std.proofs.Common.{◌≡◌, ℕ, zero, suc, ◌+◌, ◌<◌, ◌≤◌, true, false, List, length, refl, sym, ap, subst, arith, length-append}
use Rattle.std.specs.Prelude.{Some, None}
use Rattle.fidl_wire.specs.Value.{Value, Values, absent, fields, none, value}
use Rattle.fidl_wire.specs.Term.{Term, Fields, resolve, fields_of}
use Rattle.fidl_wire.specs.Term as ty
use Rattle.fidl_wire.specs.Figure.{Declarations, size_of}
use Rattle.fidl_wire.specs.Encoding.{encoding_of, members, pad8}
use Rattle.fidl_wire.specs.Typed.{IsTyped, EachTyped}
use Rattle.fidl_table_format.specs.declared.record.Header.{Header}
use Rattle.fidl_table_format.specs.declared.record.Entry.{Entry}
use Rattle.fidl_table_format.specs.declared.kind.EntryKind.{EntryKind}
use Rattle.fidl_table_format.specs.declared.kind.EntryKind.TheVariants.{Bool as Boolean, Int8, Int16, Int32, Int64, Uint8, Uint16, Uint32, Uint64, Bits, Enum, String, Vector, Array, Box, Struct, Table, Union, Handle}
use Rattle.fidl_table_format.specs.Section.{header_of, entry_at, row_at, row_place, table_length}
use Rattle.fidl_table_format.specs.Terms.{declarations_of, term_as}
use Rattle.fidl_table_format.specs.Entry.{IsOf}
use Rattle.fidl_table_format.specs.WellFormed.{WellFormed}
use Rattle.fidl_decode_model.specs.Model.{Shown}
use Rattle.fidl_decode_model.specs.Faults.{message_of}
use Rattle.fidl_decode_model.specs.Placed.{AreFieldsPlaced, object_at}
use Rattle.fidl_decode_model.specs.Readable.{AreFieldsReadable}
use Rattle.fidl_decode_model.specs.Invariants.{IsFine, EntryFine}
use Rattle.fidl_decode_model.specs.Rows.{table_rows, TypedRows}
use Rattle.fidl_decode_model.proofs.Bridge.{fine_of}
use Rattle.fidl_decode_model.proofs.Visiting.{fine_as, term_is}
use Rattle.fidl_decode_model.proofs.Stated.{typed_rows}
use Rattle.fidl_view.specs.Parts.{absence_of, nth, field_of, IsNoStruct}
use Rattle.fidl_view.specs.Shows.{Shows, type_of}
use Rattle.fidl_view.specs.Members.{ShowMembers, fields_at}
use Rattle.fidl_view.proofs.Finding.{nth_field}
use Rattle.fidl_view.proofs.Content.{not_both}
use Rattle.fidl_view.proofs.Viewing as viewing

-- a row of a table lies in its bytes
row_fits : (h : Header) (n i : ℕ) → n ≡ table_length h → i < h.rows → row_place h i + 16 ≤ n
row_fits h n i whole less = omega (arith, whole, less)

-- ---- values that have no members

pub no_field : (v : Value) → IsNoStruct v → (i : ℕ) → field_of v i ≡ None
no_field (fields vs) lacks i = absurd (lacks vs refl)
no_field _ lacks i = refl

absent_no_struct : IsNoStruct absent
absent_no_struct vs e = cc

pub no_box : (v : Value) → true ≡ absence_of v → IsNoStruct v
no_box absent e = absent_no_struct
no_box _ e = absurd (not_both (sym e))

-- only structs and boxes have members
pub no_struct_of : (ds : Declarations) (t : List ℕ) (h : Header) (e : Entry) (k : EntryKind) → (k ≡ Struct → ⊥) → (k ≡ Box → ⊥) → (v : Value) → IsTyped ds (term_as k t h e) v → IsNoStruct v
no_struct_of ds t h e k a w v x vs is = go k a w (subst (λ (u : Value). IsTyped ds (term_as k t h e) u) is x)
  where
    go : (k : EntryKind) → (k ≡ Struct → ⊥) → (k ≡ Box → ⊥) → IsTyped ds (term_as k t h e) (fields vs) → ⊥
    go Struct a w x = a refl
    go Box a w x = w refl
    go Boolean a w x = x
    go Int8 a w x = x
    go Int16 a w x = x
    go Int32 a w x = x
    go Int64 a w x = x
    go Uint8 a w x = x
    go Uint16 a w x = x
    go Uint32 a w x = x
    go Uint64 a w x = x
    go Bits a w x = x
    go Enum a w x = x
    go String a w x = x
    go Array a w x = x
    go Vector a w x = x
    go Table a w x = x
    go Union a w x = x
    go Handle a w x = x

module _ (d : Shown) (w : WellFormed d.table) where
  abbrev fine : IsFine d.table
  fine = fine_of d.table w

  -- ---- where members are

  module _ (index place : ℕ) (lt : index < (header_of d.table).entries) where
    pub box_struct : IsOf Box (entry_at d.table index) → ((entry_at d.table index).first < (header_of d.table).entries) × IsOf Struct (entry_at d.table (entry_at d.table index).first)
    box_struct is = (fine_as d.table fine index Box lt is).content

    pub struct_shown : IsOf Struct (entry_at d.table index) → (v : Value) → Shows d index place v → (vs : Values) × (v ≡ fields vs) × ShowMembers d index place vs
    struct_shown is v s = go v (viewing.lies d w index place lt Struct is v s) (viewing.lies_within d w index place lt Struct is v s)
      where
        go : (v : Value) → viewing.Lies d w index place lt Struct v → length (encoding_of (declarations_of d.table) (ty.struct (fields_at d index)) v).out ≤ length d.bytes → (vs : Values) × (v ≡ fields vs) × ShowMembers d index place vs
        go (fields vs) s within = (vs, refl, record { typed = s.0; placed = s.1.1; readable = s.2.1; within = within })
        go _ s within = absurd s.0

    pub box_shown : IsOf Box (entry_at d.table index) → (v : Value) → false ≡ absence_of v → Shows d index place v → (vs : Values) × (v ≡ fields vs) × ShowMembers d (entry_at d.table index).first (object_at d.links place) vs
    box_shown is v there s = go v there (viewing.lies d w index place lt Box is v s) (viewing.lies_within d w index place lt Box is v s)
      where
        c : ℕ
        c = (entry_at d.table index).first

        own : fields_of (resolve (declarations_of d.table).terms (ty.named c)) ≡ fields_at d c
        own = let b = box_struct is in ap (λ (t : Term). fields_of t) (term_is d.table fine c Struct b.0 b.1)

        go : (v : Value) → false ≡ absence_of v → viewing.Lies d w index place lt Box v → length (encoding_of (declarations_of d.table) (ty.box (ty.named c)) v).out ≤ length d.bytes → (vs : Values) × (v ≡ fields vs) × ShowMembers d c (object_at d.links place) vs
        go absent there s within = absurd (not_both there)
        go (fields vs) there s within = (
          vs,
          refl,
          record {
            typed = subst (λ (fs : Fields). EachTyped (declarations_of d.table) fs vs) own s.0.1;
            placed = subst (λ (fs : Fields). AreFieldsPlaced (declarations_of d.table) (message_of d.bytes d.handles) d.links fs 0 (object_at d.links place) vs) own s.1.1;
            readable = subst (λ (fs : Fields). AreFieldsReadable (declarations_of d.table) d.links fs 0 (object_at d.links place) vs) own s.2.1;
            within = subst (λ (fs : Fields). length (members (declarations_of d.table) (size_of (declarations_of d.table) (ty.struct fs)) 0 fs vs).out ≤ length d.bytes) own
                (let e = members (declarations_of d.table) (size_of (declarations_of d.table) (ty.struct (fields_of (type_of d c)))) 0 (fields_of (type_of d c)) vs in omega (arith, within, length-append (pad8 e.inline) e.out));
          },
        )
        go _ there s within = absurd s.0

  -- ---- one of them

  module _ (index place : ℕ) (lt : index < (header_of d.table).entries) (is : IsOf Struct (entry_at d.table index)) where
    struct_fine : EntryFine d.table (entry_at d.table index) Struct
    struct_fine = fine_as d.table fine index Struct lt is

    pub row_in_range : (i : ℕ) → i < (entry_at d.table index).count → (entry_at d.table index).first + i < (header_of d.table).rows
    row_in_range i less = let c = struct_fine.content.0 in omega arith

    -- which lies in the bytes of the table
    pub row_within : (i : ℕ) → i < (entry_at d.table index).count → row_place (header_of d.table) ((entry_at d.table index).first + i) + 16 ≤ length d.table
    row_within i less = row_fits (header_of d.table) (length d.table) ((entry_at d.table index).first + i) w.header.whole (row_in_range i less)

    pub member_shown : (i : ℕ) → i < (entry_at d.table index).count → (vs : Values) → ShowMembers d index place vs
        → let r = row_at d.table (header_of d.table) ((entry_at d.table index).first + i) in (x : Value) × (nth vs i ≡ Some x) × Shows d r.entry (place + r.key) x
    member_shown i less vs s =
        let e = entry_at d.table index in
        let r = nth_field d.table (message_of d.bytes d.handles) d.links e.first e.count (size_of (declarations_of d.table) (ty.struct (fields_at d index))) 0 place vs i less struct_fine.content.1 s.typed s.placed s.within s.readable in
        (r.0, r.1, record { typed = r.2.0; placed = r.2.1; readable = r.2.3; within = r.2.2 })

    pub no_member : (i : ℕ) → (entry_at d.table index).count ≤ i → (vs : Values) → ShowMembers d index place vs → nth vs i ≡ None
    no_member i le vs s = none_past (entry_at d.table index).count (entry_at d.table index).first vs i (typed_rows d.table (entry_at d.table index).first (entry_at d.table index).count vs s.typed) le
      where
        none_past : (rows first : ℕ) (vs : Values) (i : ℕ) → TypedRows (declarations_of d.table) (table_rows d.table (header_of d.table) first rows) vs → rows ≤ i → nth vs i ≡ None
        none_past zero first none i h le = refl
        none_past (suc rows) first none i h le = absurd h
        none_past zero first (value v vs) i h le = absurd h
        none_past (suc rows) first (value v vs) zero h le = absurd (omega arith)
        none_past (suc rows) first (value v vs) (suc i) h le = none_past rows (suc first) vs i h.1 (omega arith)
