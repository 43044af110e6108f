-- The members of a struct, a table or a union, where they stand in a message (docs/views.md,
-- "Calls").
use Rattle.std.specs.Prelude.{◌≡◌, ℕ, zero, suc, ◌≤◌, false, length, Option, Some, None}
use Rattle.fidl_wire.specs.Value.{Value, Values, Member, fields}
use Rattle.fidl_wire.specs.Term.{Term, Fields, no_fields, field, resolve, find}
use Rattle.fidl_wire.specs.Term as ty
use Rattle.fidl_wire.specs.Figure.{Declarations, size_of}
use Rattle.fidl_wire.specs.Typed.{EachTyped, IsTypedMember}
use Rattle.fidl_wire.specs.Encoding.{members, enveloped}
use Rattle.fidl_wire.specs.Standing.{Stands}
use Rattle.fidl_table_format.specs.Section.{header_of, entry_at}
use Rattle.fidl_table_format.specs.Terms.{declarations_of, fields_from, members_of}
use Rattle.fidl_decode_model.specs.Faults.{message_of}
use Rattle.fidl_decode_model.specs.Placed.{AreFieldsPlaced, IsMemberPlaced}
use Rattle.fidl_decode_model.specs.Readable.{AreFieldsReadable, IsMemberReadable}
use Rattle.fidl_decode_model.specs.Model.{Shown}

-- the members that a struct's entry declares
abbrev pub fields_at : Shown → (index : ℕ) → Fields
fields_at d index = let e = entry_at d.table index in
    fields_from d.table (header_of d.table) e.first e.count

-- the values are those of the members of a struct of this entry, and stand at their offsets in a
-- struct at this place, where they can be read; what they have out of line is no longer than the
-- message
pub record ShowMembers (d : Shown) (index place : ℕ) (vs : Values) : Type 0 where
  pub typed : EachTyped (declarations_of d.table) (fields_at d index) vs
  pub placed : AreFieldsPlaced (declarations_of d.table) (message_of d.bytes d.handles) d.links
      (fields_at d index) 0 place vs
  pub readable : AreFieldsReadable (declarations_of d.table) d.links (fields_at d index) 0 place vs
  pub within : length (members (declarations_of d.table)
      (size_of (declarations_of d.table) (ty.struct (fields_at d index))) 0 (fields_at d index)
      vs).out ≤ length d.bytes

-- some values are
abbrev pub HaveMembers : Shown → (index place : ℕ) → Type 0
HaveMembers d index place = (vs : Values) × ShowMembers d index place vs

-- the value has members, and they are some of these
abbrev pub HaveMembersAt : Shown → (index place : ℕ) → Value → Type 0
HaveMembersAt d index place v = (vs : Values) × (v ≡ fields vs) × ShowMembers d index place vs

-- the type that the layout of a table's or union's entry gives the member of an ordinal, where it
-- has that
abbrev pub term_at : Shown → (index ordinal : ℕ) → Option Term
term_at d index ordinal = find (members_of d.table index) ordinal

-- the member is one of this ordinal in the layout of an entry, its envelope stands at the place,
-- and it stands in the envelope or where the links say, and can be read there; what it has out of
-- line is no longer than the message
pub record ShowMember (d : Shown) (index ordinal place : ℕ) (x : Member) : Type 0 where
  pub typed : IsTypedMember (declarations_of d.table) false (term_at d index ordinal) x
  pub stands : Stands d.bytes place
      (enveloped (declarations_of d.table) (term_at d index ordinal) x).inline
  pub placed : IsMemberPlaced (declarations_of d.table) (message_of d.bytes d.handles) d.links
      (term_at d index ordinal) place x
  pub readable : IsMemberReadable (declarations_of d.table) d.links (term_at d index ordinal) place x
  pub within : length (enveloped (declarations_of d.table) (term_at d index ordinal) x).out
      ≤ length d.bytes

-- some member is
abbrev pub HaveMember : Shown → (index ordinal place : ℕ) → Type 0
HaveMember d index ordinal place = (x : Member) × ShowMember d index ordinal place x

-- a struct, or the struct in a box
abbrev pub struct_of : Declarations → Term → Term
struct_of ds (ty.box t) = resolve ds.terms t
struct_of ds t = t

-- the type of the member at a place of a struct's declaration
abbrev pub field_at : Fields → (at : ℕ) → Option Term
field_at no_fields at = None
field_at (field name t fs) zero = Some t
field_at (field name t fs) (suc at) = field_at fs at
