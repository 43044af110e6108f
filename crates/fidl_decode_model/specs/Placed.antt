-- Values that stand in a message, and what lies below them where the links say (docs/decoding.md,
-- "Links").
use Rattle.std.specs.Prelude.{◌≡◌, ℕ, ◌+◌, ◌-◌, ◌/◌, Bool, true, false, nat_le, Option, Some}
use Rattle.std.specs.Prelude.{slice_index, slice_get}
use Rattle.std.specs.Int.{next_multiple_of}
use Rattle.fidl_wire.specs.Value.{Value, absent, bool, number, text, list, fields, handle, table}
use Rattle.fidl_wire.specs.Value.{union, Values, none, value, Member, known, unknown, Members}
use Rattle.fidl_wire.specs.Value.{empty, member}
use Rattle.fidl_wire.specs.Term.{Term, Fields, no_fields, field, Rows, resolve, rows_of, find}
use Rattle.fidl_wire.specs.Term as ty
use Rattle.fidl_wire.specs.Figure.{Declarations, figure_of, size_of}
use Rattle.fidl_wire.specs.Encoding.{encoding_of, element_of, content_of, term_or, envelopes}
use Rattle.fidl_wire.specs.Standing.{Stands, Carries}
use Rattle.fidl_decode_model.specs.Links.{Linked}
use Rattle.fidl_decode_model.specs.State.{Message, Position, element_size, envelope_place}

-- where the object of the marker or envelope at a place begins
abbrev pub object_at : Linked → (marker : ℕ) → ℕ
object_at l marker = slice_index l.objects (marker / 8)

-- which record the handle at a place has, counted from 0
abbrev pub record_at : Linked → (place : ℕ) → ℕ
record_at l place = slice_index l.records (place / 4) - 1

-- where the content of a value at a place stands: that of a vector or box is the object of its
-- marker
abbrev pub content_at : Linked → Term → (place : ℕ) → ℕ
content_at l (ty.vector optional bound t) place = object_at l (place + 8)
content_at l (ty.box t) place = object_at l place
content_at l _ place = place

-- which record the member of the envelope at a place has first
abbrev pub first_record_at : Linked → (envelope : ℕ) → ℕ
first_record_at l envelope = record_at l (envelope + 4)

-- where the member of the envelope at a place stands: in the envelope, or as its object
abbrev pub enclosed_at : Linked → (inline : Bool) → (envelope : ℕ) → ℕ
enclosed_at l true envelope = envelope
enclosed_at l false envelope = object_at l envelope

-- the value's own bytes stand at the place
abbrev pub Inline : Declarations → Message → Term → (place : ℕ) → Value → Type 0
Inline ds m t place v = Stands m.bytes place (encoding_of ds t v).inline

abbrev mutual
  -- the value of a term that is no name stands at the place, and what lies below it where the links
  -- say
  pub Placed : Declarations → Message → Linked → Term → (place : ℕ) → Value → Type 0
  Placed ds m l t place absent = Inline ds m t place absent
  Placed ds m l t place (bool b) = Inline ds m t place (bool b)
  Placed ds m l t place (number z) = Inline ds m t place (number z)
  -- the handle is the one of its record
  Placed ds m l t place (handle h) = Inline ds m t place (handle h)
      × (slice_get m.handles (record_at l place) ≡ Some h)
  -- the text is the object of its marker, behind the count
  Placed ds m l t place (text bytes) = Inline ds m t place (text bytes)
      × Stands m.bytes (object_at l (place + 8)) bytes
  -- elements stand one behind the other, in place or as the object of the marker
  Placed ds m l t place (list vs) = Inline ds m t place (list vs)
      × ArePlaced ds m l (element_of ds t) (element_size ds t) (content_at l t place) vs
  -- members stand at their offsets, in place or in the object of the marker
  Placed ds m l t place (fields vs) = Inline ds m t place (fields vs)
      × AreFieldsPlaced ds m l (content_of ds t) 0 (content_at l t place) vs
  -- the envelopes are the object of the marker, and members stand where their envelopes say
  Placed ds m l t place (table n ms) = Inline ds m t place (table n ms)
      × Stands m.bytes (object_at l (place + 8)) (envelopes ds (rows_of t) 1 n ms).inline
      × AreMembersPlaced ds m l (rows_of t) (object_at l (place + 8)) ms
  -- the envelope stands behind the ordinal
  Placed ds m l t place (union ordinal x) = Inline ds m t place (union ordinal x)
      × IsMemberPlaced ds m l (find (rows_of t) ordinal) (place + 8) x

  -- the same of elements of this size, the first of them at a place
  pub ArePlaced : Declarations → Message → Linked → Term → (size place : ℕ) → Values → Type 0
  ArePlaced ds m l t size place none = Unit {0}
  ArePlaced ds m l t size place (value v vs) = Placed ds m l t place v
      × ArePlaced ds m l t size (place + size) vs

  -- the same of members that begin behind `from`, in a struct at a base
  pub AreFieldsPlaced : Declarations → Message → Linked → Fields → (from base : ℕ) → Values → Type 0
  AreFieldsPlaced ds m l fs from base none = Unit {0}
  AreFieldsPlaced ds m l no_fields from base (value v vs) = Unit {0}
  AreFieldsPlaced ds m l (field name t fs) from base (value v vs) =
      let f = figure_of ds.figures t in
      let at = next_multiple_of from f.align in
      Placed ds m l (resolve ds.terms t) (base + at) v
      × AreFieldsPlaced ds m l fs (at + f.size) base vs

  -- the same of the member of the envelope at a place: a known one is a value; of an unknown one
  -- the bytes stand there, and the handles are those from its first record on
  pub IsMemberPlaced : Declarations → Message → Linked → Option Term → (envelope : ℕ) → Member
      → Type 0
  IsMemberPlaced ds m l t envelope (known v) =
      Placed ds m l (resolve ds.terms (term_or t))
      (enclosed_at l (nat_le (size_of ds (term_or t)) 4) envelope) v
  IsMemberPlaced ds m l t envelope (unknown inline bytes handles) =
      Stands m.bytes (enclosed_at l inline envelope) bytes
      × Carries m.handles (first_record_at l envelope) handles

  -- the same of a table's members, whose envelopes stand from a base on
  pub AreMembersPlaced : Declarations → Message → Linked → Rows → (base : ℕ) → Members → Type 0
  AreMembersPlaced ds m l rows base empty = Unit {0}
  AreMembersPlaced ds m l rows base (member ordinal x ms) =
      IsMemberPlaced ds m l (find rows ordinal) (envelope_place base ordinal) x
      × AreMembersPlaced ds m l rows base ms

-- the links of a state
abbrev pub links_of : Position → Linked
links_of s = record { objects = s.objects; records = s.records }
