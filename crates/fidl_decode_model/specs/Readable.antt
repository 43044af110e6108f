-- Where the bytes of a placed value stand as they came, and each link to what lies below it is
-- written (docs/decoding.md, "Links").
use Rattle.std.specs.Prelude.{◌≡◌, ℕ, ◌+◌, ◌/◌, ◌%◌, ◌*◌, ◌<◌, ◌≤◌, Bool, true, false, nat_le, List}
use Rattle.std.specs.Prelude.{length, Option, slice_index}
use Rattle.std.specs.Int.{next_multiple_of}
use Rattle.fidl_wire.specs.declared.handle.HandleInfo.{HandleInfo}
use Rattle.fidl_wire.specs.Value.{Value, absent, bool, number, text, list, fields, handle, table}
use Rattle.fidl_wire.specs.Value.{union, Values, none, value, Member, known, unknown, Members}
use Rattle.fidl_wire.specs.Value.{empty, member}
use Rattle.fidl_wire.specs.Term.{Term, Fields, no_fields, field, Rows, resolve, rows_of, find}
use Rattle.fidl_wire.specs.Term as ty
use Rattle.fidl_wire.specs.Figure.{Declarations, figure_of, size_of}
use Rattle.fidl_wire.specs.Encoding.{element_of, content_of, term_or}
use Rattle.fidl_wire.specs.Message.{Encodes}
use Rattle.fidl_decode_model.specs.Links.{Linked}
use Rattle.fidl_decode_model.specs.State.{element_size, envelope_place}
use Rattle.fidl_links.specs.Links.{HasNoLink}
use Rattle.fidl_decode_model.specs.Faults.{message_of}
use Rattle.fidl_decode_model.specs.Placed.{object_at, content_at, enclosed_at, Placed}

-- no link stands at a byte, neither in eight bytes nor in four
abbrev pub IsUnlinked : Linked → (k : ℕ) → Type 0
IsUnlinked l k = HasNoLink l.objects l.records k

-- none stands at the bytes from one place up to another
abbrev pub AreUnlinked : Linked → (from to : ℕ) → Type 0
AreUnlinked l from to = (k : ℕ) → from ≤ k → k < to → IsUnlinked l k

-- the link of the marker or envelope at a place to its object is written: both begin at multiples
-- of 8
abbrev pub HasObject : Linked → (marker : ℕ) → Type 0
HasObject l marker = (marker % 8 ≡ 0) × (0 < object_at l marker) × (object_at l marker % 8 ≡ 0)

-- the link of the handle at a place, a multiple of 4, to its record is written
abbrev pub HasRecord : Linked → (place : ℕ) → Type 0
HasRecord l place = (place % 4 ≡ 0) × (0 < slice_index l.records (place / 4))

-- what stands in front of the content of a value at a place can be read: the count, and the marker
abbrev pub IsHeadReadable : Linked → Term → (place : ℕ) → Type 0
IsHeadReadable l (ty.vector optional bound t) place = AreUnlinked l place (place + 8)
    × HasObject l (place + 8)
IsHeadReadable l (ty.box t) place = HasObject l place
IsHeadReadable l _ place = Unit {0}

-- the envelope at a place leads to its first record, and to its member if that is out of line
abbrev pub IsEnvelopeReadable : Linked → (inline : Bool) → (envelope : ℕ) → Type 0
IsEnvelopeReadable l true envelope = (envelope % 8 ≡ 0) × HasRecord l (envelope + 4)
IsEnvelopeReadable l false envelope = HasRecord l (envelope + 4) × HasObject l envelope

abbrev mutual
  -- the value of a term that is no name can be read at the place: numbers, counts and texts stand
  -- there as they came, and each marker, envelope and handle has its link
  pub Readable : Declarations → Linked → Term → (place : ℕ) → Value → Type 0
  Readable ds l t place absent = AreUnlinked l place (place + size_of ds t)
      × (place % (figure_of ds.figures t).align ≡ 0)
  Readable ds l t place (bool b) = AreUnlinked l place (place + size_of ds t)
  Readable ds l t place (number z) = AreUnlinked l place (place + size_of ds t)
  Readable ds l t place (handle h) = HasRecord l place
  -- the count, the marker, and the text itself
  Readable ds l t place (text bytes) = AreUnlinked l place (place + 8) × HasObject l (place + 8)
      × AreUnlinked l (object_at l (place + 8)) (object_at l (place + 8) + length bytes)
  Readable ds l t place (list vs) = IsHeadReadable l t place
      × AreReadable ds l (element_of ds t) (element_size ds t) (content_at l t place) vs
  Readable ds l t place (fields vs) = IsHeadReadable l t place
      × AreFieldsReadable ds l (content_of ds t) 0 (content_at l t place) vs
  Readable ds l t place (table n ms) = AreUnlinked l place (place + 8) × HasObject l (place + 8)
      × AreMembersReadable ds l (rows_of t) 0 n (object_at l (place + 8)) ms
  -- the ordinal, and the envelope behind it
  Readable ds l t place (union ordinal x) = AreUnlinked l place (place + 8)
      × IsMemberReadable ds l (find (rows_of t) ordinal) (place + 8) x

  -- the same of elements of this size, the first of them at a place
  pub AreReadable : Declarations → Linked → Term → (size place : ℕ) → Values → Type 0
  AreReadable ds l t size place none = Unit {0}
  AreReadable ds l t size place (value v vs) = Readable ds l t place v
      × AreReadable ds l t size (place + size) vs

  -- the same of members that begin behind `from`, in a struct at a base
  pub AreFieldsReadable : Declarations → Linked → Fields → (from base : ℕ) → Values → Type 0
  AreFieldsReadable ds l fs from base none = Unit {0}
  AreFieldsReadable ds l no_fields from base (value v vs) = Unit {0}
  AreFieldsReadable ds l (field name t fs) from base (value v vs) =
      let f = figure_of ds.figures t in
      let at = next_multiple_of from f.align in
      Readable ds l (resolve ds.terms t) (base + at) v
      × AreFieldsReadable ds l fs (at + f.size) base vs

  -- the same of the member of the envelope at a place, of an unknown one its bytes
  pub IsMemberReadable : Declarations → Linked → Option Term → (envelope : ℕ) → Member → Type 0
  IsMemberReadable ds l t envelope (known v) =
      let inline = nat_le (size_of ds (term_or t)) 4 in
      IsEnvelopeReadable l inline envelope
      × Readable ds l (resolve ds.terms (term_or t)) (enclosed_at l inline envelope) v
  IsMemberReadable ds l t envelope (unknown inline bytes handles) =
      IsEnvelopeReadable l inline envelope
      × AreUnlinked l (enclosed_at l inline envelope)
      (enclosed_at l inline envelope + length bytes)

  -- the same of a table's members behind the ordinal `last`, of n envelopes from a base on: those
  -- of no member stand as they came
  pub AreMembersReadable : Declarations → Linked → Rows → (last n base : ℕ) → Members → Type 0
  AreMembersReadable ds l rows last n base empty = AreUnlinked l (base + 8 * last) (base + 8 * n)
  AreMembersReadable ds l rows last n base (member ordinal x ms) =
      AreUnlinked l (base + 8 * last) (envelope_place base ordinal)
      × IsMemberReadable ds l (find rows ordinal) (envelope_place base ordinal) x
      × AreMembersReadable ds l rows ordinal n base ms

-- some value of the term has this message, stands in it from 0 on, with all below it where the
-- links say, and can be read there
abbrev pub StandsIn : Declarations → Term → List ℕ → List HandleInfo → Linked → Type 0
StandsIn ds t bytes handles l = (v : Value) × Encodes ds t v bytes handles
    × Placed ds (message_of bytes handles) l (resolve ds.terms t) 0 v
    × Readable ds l (resolve ds.terms t) 0 v
