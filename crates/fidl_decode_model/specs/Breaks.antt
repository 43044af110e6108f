-- Where a message breaks a rule of its type (docs/decoding.md, "Refusals"): a part that stands in
-- it, with all before that part right.
use Rattle.std.specs.Prelude.{◌≡◌, ◌≢◌, ◌⊎◌, ℕ, zero, suc, ◌+◌, ◌-◌, ◌*◌, ◌^◌, ◌<◌, ◌≤◌, Bool}
use Rattle.std.specs.Prelude.{false, IsTrue, IsFalse}
use Rattle.std.specs.Prelude.{List, [], ◌∷◌, length, replicate, Option, Some, None, slice_index}
use Rattle.std.specs.Prelude.{slice_get, slice_range, Contains, IsUtf8}
use Rattle.std.specs.Int.{next_multiple_of, w64}
use Rattle.fidl_wire.specs.Term.{Term, Fields, no_fields, field, Rows, resolve, fields_of, find}
use Rattle.fidl_wire.specs.Term as ty
use Rattle.fidl_wire.specs.Figure.{Declarations, figure_of, size_of}
use Rattle.fidl_limits.specs.declared.limits.TheConstants.{MAX_DEPTH}
use Rattle.fidl_wire.specs.Encoding.{zeros, present}
use Rattle.fidl_wire.specs.declared.handle.HandleInfo.{HandleInfo}
use Rattle.fidl_wire.specs.Typed.{InMask, IsAllowed}
use Rattle.fidl_wire.specs.Standing.{Stands}
use Rattle.fidl_wire.specs.Field.{number_at}
use Rattle.fidl_table_format.specs.Number.{number_standing}
use Rattle.fidl_decode_model.specs.declared.fault.DecodeFault.{DecodeFault}
use Rattle.fidl_decode_model.specs.declared.fault.DecodeFault.TheVariants.{Padding, BadBool}
use Rattle.fidl_decode_model.specs.declared.fault.DecodeFault.TheVariants.{UnknownValue}
use Rattle.fidl_decode_model.specs.declared.fault.DecodeFault.TheVariants.{UnknownBits, BadMarker}
use Rattle.fidl_decode_model.specs.declared.fault.DecodeFault.TheVariants.{AbsentRequired, BadCount}
use Rattle.fidl_decode_model.specs.declared.fault.DecodeFault.TheVariants.{OverBound, NotUtf8}
use Rattle.fidl_decode_model.specs.declared.fault.DecodeFault.TheVariants.{TooDeep}
use Rattle.fidl_decode_model.specs.declared.fault.DecodeFault.TheVariants.{Truncated, HandleMissing}
use Rattle.fidl_decode_model.specs.declared.fault.DecodeFault.TheVariants.{BadEnvelope, WrongCounts}
use Rattle.fidl_decode_model.specs.declared.fault.DecodeFault.TheVariants.{UnknownOrdinal}
use Rattle.fidl_decode_model.specs.declared.fault.DecodeFault.TheVariants.{WrongHandle}
use Rattle.fidl_decode_model.specs.State.{Message, Position, opened, linked, envelope_place}
use Rattle.fidl_decode_model.specs.State.{ValueAt}
use Rattle.fidl_decode_model.specs.Envelopes.{Contained, CanHold, BreaksEnvelope, IsRightEnvelope}
use Rattle.fidl_decode_model.specs.Envelopes.{Miscounts}

-- a part of an object: its offset from the object's start, and its type
pub record Part : Type 0 where
  pub offset : ℕ
  pub term : Term

-- a struct's members, of those that begin behind `from`
abbrev pub member_parts : Declarations → (from : ℕ) → Fields → List Part
member_parts ds from no_fields = []
member_parts ds from (field name t fs) =
    let f = figure_of ds.figures t in
    let at = next_multiple_of from f.align in
    record { offset = at; term = t } ∷ member_parts ds (at + f.size) fs

-- an array's elements, from an offset on
abbrev pub element_parts : Declarations → Term → (n from : ℕ) → List Part
element_parts ds t zero from = []
element_parts ds t (suc n) from = record { offset = from; term = t }
    ∷ element_parts ds t n (from + size_of ds t)

-- what an object of the type is made of; None for a type that is one field
abbrev pub parts_of : Declarations → Term → Option (List Part)
parts_of ds (ty.struct fs) = Some (member_parts ds 0 fs)
parts_of ds (ty.array t n) = Some (element_parts ds t n 0)
parts_of ds t = None

-- Padding, reported at the first byte of a gap that is not zero
abbrev pub IsPadding : List ℕ → (from to : ℕ) → DecodeFault → Type 0
IsPadding bytes from to (Padding at) = (from ≤ at) × (at < to)
    × Stands bytes from (zeros (at - from)) × (slice_index bytes at ≢ 0)
IsPadding bytes from to fault = ⊥

-- the rule that a field at a place breaks, by its type: a line for each fault
abbrev pub BreaksField : Message → Term → (place : ℕ) → DecodeFault → Type 0
BreaksField m ty.bool place (BadBool at) = (at ≡ place) × (1 < slice_index m.bytes at)
BreaksField m (ty.enum kind (Some values)) place (UnknownValue at) = (at ≡ place)
    × ¬ Contains values (number_standing kind m.bytes at)
BreaksField m (ty.bits kind (Some mask)) place (UnknownBits at) = (at ≡ place)
    × ¬ InMask mask (number_standing kind m.bytes at)
BreaksField m t place fault = ⊥

-- the rule that a handle at a place breaks, which is to have this record: its marker says neither,
-- or that it is absent where one is required, or there is no such record, or it is not allowed
abbrev pub BreaksHandle : Message → (optional : Bool) (subtype rights : ℕ) → (place k : ℕ)
    → DecodeFault → Type 0
BreaksHandle m optional subtype rights place k (BadMarker at) = (at ≡ place)
    × ¬ (Stands m.bytes at (zeros 4)) × ¬ (Stands m.bytes at (replicate 4 255))
BreaksHandle m optional subtype rights place k (AbsentRequired at) = (at ≡ place) × IsFalse optional
    × Stands m.bytes at (zeros 4)
BreaksHandle m optional subtype rights place k (HandleMissing at) = (at ≡ place)
    × Stands m.bytes at (replicate 4 255) × (length m.handles ≤ k)
BreaksHandle m optional subtype rights place k (WrongHandle at) = (at ≡ place)
    × Stands m.bytes at (replicate 4 255)
    × ((h : HandleInfo) × (slice_get m.handles k ≡ Some h) × ¬ (IsAllowed subtype rights h))
BreaksHandle m optional subtype rights place k fault = ⊥

-- the count of a string or vector at a place
abbrev pub count_at : List ℕ → (place : ℕ) → ℕ
count_at bytes place = number_at w64 bytes place

-- the rule that a string or vector at a place breaks, whose content has this size: its marker says
-- neither, or that it is absent where one is required; it is absent with a count; its content does
-- not fit the message, is over the bound, or lies too deep
abbrev pub BreaksCounted : Message → (held : ℕ) (optional : Bool) (bound size place next : ℕ)
    → DecodeFault → Type 0
BreaksCounted m held optional bound size place next (BadMarker at) = (at ≡ place + 8)
    × ¬ (Stands m.bytes (place + 8) (zeros 8)) × ¬ (Stands m.bytes (place + 8) present)
BreaksCounted m held optional bound size place next (AbsentRequired at) = (at ≡ place)
    × IsFalse optional × Stands m.bytes (place + 8) (zeros 8)
BreaksCounted m held optional bound size place next (BadCount at) = (at ≡ place)
    × ((Stands m.bytes (place + 8) (zeros 8) × (count_at m.bytes place ≢ 0))
    ⊎ (Stands m.bytes (place + 8) present × (length m.bytes - next < size)))
BreaksCounted m held optional bound size place next (OverBound at) = (at ≡ place)
    × Stands m.bytes (place + 8) present × (bound < count_at m.bytes place)
BreaksCounted m held optional bound size place next (TooDeep at) = (at ≡ place)
    × Stands m.bytes (place + 8) present × (MAX_DEPTH ≤ held)
BreaksCounted m held optional bound size place next (Truncated at) = (at ≡ next)
    × Stands m.bytes (place + 8) present × (length m.bytes - next < next_multiple_of size 8)
BreaksCounted m held optional bound size place next fault = ⊥

-- the rule that a string at a place breaks: one of those, or its bytes are no UTF-8, or a byte of
-- its padding is not zero
abbrev pub BreaksText : Message → (held : ℕ) (optional : Bool) (bound place next : ℕ) → DecodeFault
    → Type 0
BreaksText m held optional bound place next (NotUtf8 at) = (at ≡ next)
    × Stands m.bytes (place + 8) present
    × ¬ (IsUtf8 (slice_range m.bytes next (next + count_at m.bytes place)))
BreaksText m held optional bound place next (Padding at) = let n = count_at m.bytes place in
    Stands m.bytes (place + 8) present
    × IsPadding m.bytes (next + n) (next + next_multiple_of n 8) (Padding at)
BreaksText m held optional bound place next fault =
    BreaksCounted m held optional bound (count_at m.bytes place) place next fault

-- the rule that a box at a place breaks, whose content has this size: its marker says neither, or
-- its content lies too deep, or does not fit the message
abbrev pub BreaksBox : Message → (held size place next : ℕ) → DecodeFault → Type 0
BreaksBox m held size place next (BadMarker at) = (at ≡ place) × ¬ (Stands m.bytes place (zeros 8))
    × ¬ (Stands m.bytes place present)
BreaksBox m held size place next (TooDeep at) = (at ≡ place) × Stands m.bytes place present
    × (MAX_DEPTH ≤ held)
BreaksBox m held size place next (Truncated at) = (at ≡ next) × Stands m.bytes place present
    × (length m.bytes - next < next_multiple_of size 8)
BreaksBox m held size place next fault = ⊥

-- the rule that a table at a place breaks: that of a required vector with eight bytes for each
-- envelope, whose bound is the greatest count
abbrev pub BreaksTable : Message → (held place next : ℕ) → DecodeFault → Type 0
BreaksTable m held place next fault =
    BreaksCounted m held false (2 ^ 64 - 1) (8 * count_at m.bytes place) place next fault

-- the ordinal of a union at a place
abbrev pub ordinal_at : List ℕ → (place : ℕ) → ℕ
ordinal_at bytes place = number_at w64 bytes place

-- the rule that a union at a place breaks by its ordinal: it is absent where one is required, or
-- has no ordinal and an envelope that is not zeros; or a strict one has an ordinal that is no
-- member's
abbrev pub BreaksUnion : Message → (optional strict : Bool) → Rows → (place : ℕ) → DecodeFault
    → Type 0
BreaksUnion m optional strict rows place (AbsentRequired at) = (at ≡ place) × IsFalse optional
    × (ordinal_at m.bytes place ≡ 0) × Stands m.bytes (place + 8) (zeros 8)
BreaksUnion m optional strict rows place (BadEnvelope at) = (at ≡ place + 8)
    × (ordinal_at m.bytes place ≡ 0) × ¬ (Stands m.bytes (place + 8) (zeros 8))
BreaksUnion m optional strict rows place (UnknownOrdinal at) = (at ≡ place) × IsTrue strict
    × (ordinal_at m.bytes place ≢ 0) × (find rows (ordinal_at m.bytes place) ≡ None)
BreaksUnion m optional strict rows place fault = ⊥

-- an object out of line: the place of its marker, its size without padding, and its parts
pub record Object : Type 0 where
  pub marker : ℕ
  pub size : ℕ
  pub parts : List Part

-- the object of a box or vector at a place: a struct, or so many elements as the count says; None
-- for another type
abbrev pub object_of : Declarations → List ℕ → Term → (place : ℕ) → Option Object
object_of ds bytes (ty.box t) place = let fs = fields_of (resolve ds.terms t) in
    Some (record { marker = place; size = size_of ds (ty.struct fs); parts = member_parts ds 0 fs })
object_of ds bytes (ty.vector optional bound t) place = let n = count_at bytes place in
    Some (record { marker = place + 8; size = size_of ds t * n; parts = element_parts ds t n 0 })
object_of ds bytes t place = None

-- the rule that a value at a place breaks by itself, where the next object out of line and the next
-- handle are these
abbrev pub BreaksRule : Declarations → Message → (held : ℕ) → Term → (place next k : ℕ)
    → DecodeFault → Type 0
BreaksRule ds m held (ty.handle optional subtype rights) place next k fault =
    BreaksHandle m optional subtype rights place k fault
BreaksRule ds m held (ty.string optional bound) place next k fault =
    BreaksText m held optional bound place next fault
BreaksRule ds m held (ty.vector optional bound t) place next k fault =
    BreaksCounted m held optional bound (size_of ds t * count_at m.bytes place) place next fault
BreaksRule ds m held (ty.box t) place next k fault =
    BreaksBox m held (size_of ds (ty.struct (fields_of (resolve ds.terms t)))) place next fault
BreaksRule ds m held (ty.table rows) place next k fault =
    BreaksTable m held place next fault
BreaksRule ds m held (ty.union optional strict rows) place next k fault =
    BreaksUnion m optional strict rows place fault
BreaksRule ds m held t place next k fault = BreaksField m t place fault

-- a value at a place breaks no rule by itself
abbrev pub IsRight : Declarations → Message → (held : ℕ) → Term → (place : ℕ) → Position → Type 0
IsRight ds m held t place from = (other : DecodeFault)
    → ¬ (BreaksRule ds m held t place from.next from.handle other)

mutual
  -- an object of the type, which is no name, at a place, whose objects out of line begin at a
  -- state: a value of it breaks its own rule, or a gap has a byte that is not zero
  pub data Breaks (ds : Declarations) (m : Message) : (held : ℕ) → Term → (place : ℕ) → Position
      → DecodeFault → Type 0 where
    in_field : {held : ℕ} (t : Term) (place : ℕ) (from : Position) (fault : DecodeFault)
        → BreaksRule ds m held t place from.next from.handle fault
        → Breaks ds m held t place from fault
    in_parts : {held : ℕ} (t : Term) (place : ℕ) (from : Position) (fault : DecodeFault)
        (ps : List Part) → parts_of ds t ≡ Some ps
        → BreaksParts ds m held (size_of ds t) place 0 ps from fault
        → Breaks ds m held t place from fault
    -- what a box or vector that is right by itself holds: the parts of its object, padded to a
    -- multiple of 8, which is the next one
    in_object : {held : ℕ} (t : Term) (place : ℕ) (from : Position) (fault : DecodeFault)
        (o : Object) → object_of ds m.bytes t place ≡ Some o → Stands m.bytes o.marker present
        → IsRight ds m held t place from
        → BreaksParts ds m (held + 1) (next_multiple_of o.size 8) from.next 0 o.parts
        (linked o.marker o.size from) fault → Breaks ds m held t place from fault
    -- the envelopes of a table that is right by itself, which are the next object
    in_table : {held : ℕ} (rows : Rows) (place : ℕ) (from : Position) (fault : DecodeFault)
        → Stands m.bytes (place + 8) present → IsRight ds m held (ty.table rows) place from
        → BreaksEnvelopes ds m (held + 1) rows 1 (count_at m.bytes place) from.next
        (linked (place + 8) (8 * count_at m.bytes place) from) fault
        → Breaks ds m held (ty.table rows) place from fault
    -- the member of a union that is right by itself
    in_union : {held : ℕ} (optional strict : Bool) (rows : Rows) (place : ℕ) (from : Position)
        (fault : DecodeFault) → ordinal_at m.bytes place ≢ 0
        → IsRight ds m held (ty.union optional strict rows) place from
        → BreaksMember ds m held (find rows (ordinal_at m.bytes place)) (place + 8) from fault
        → Breaks ds m held (ty.union optional strict rows) place from fault

  -- the same of the envelopes of a table, from an ordinal up to the count, which stand from a base
  -- on
  pub data BreaksEnvelopes (ds : Declarations) (m : Message) : (held : ℕ) → Rows
      → (ordinal n base : ℕ) → Position → DecodeFault → Type 0 where
    -- the next one has a member that is not right
    at_member : {held : ℕ} (rows : Rows) (ordinal n base : ℕ) (from : Position)
        (fault : DecodeFault) → ordinal ≤ n
        → ¬ (Stands m.bytes (envelope_place base ordinal) (zeros 8))
        → BreaksMember ds m held (find rows ordinal) (envelope_place base ordinal) from fault
        → BreaksEnvelopes ds m held rows ordinal n base from fault
    -- a later one, where the next is zeros, or a member stands in it
    behind_none : {held : ℕ} (rows : Rows) (ordinal n base : ℕ) (from : Position)
        (fault : DecodeFault) → ordinal ≤ n → Stands m.bytes (envelope_place base ordinal) (zeros 8)
        → BreaksEnvelopes ds m held rows (suc ordinal) n base from fault
        → BreaksEnvelopes ds m held rows ordinal n base from fault
    behind_member : {held : ℕ} (rows : Rows) (ordinal n base : ℕ) (from mid : Position)
        (fault : DecodeFault) → ordinal ≤ n
        → Contained ds m held (find rows ordinal) (envelope_place base ordinal) from mid
        → BreaksEnvelopes ds m held rows (suc ordinal) n base mid fault
        → BreaksEnvelopes ds m held rows ordinal n base from fault

  -- the same of the member of an envelope at a place
  pub data BreaksMember (ds : Declarations) (m : Message) : (held : ℕ) → Option Term
      → (envelope : ℕ) → Position → DecodeFault → Type 0 where
    by_numbers : {held : ℕ} (t : Option Term) (envelope : ℕ) (from : Position) (fault : DecodeFault)
        → BreaksEnvelope ds m held t envelope from.next from.handle fault
        → BreaksMember ds m held t envelope from fault
    -- in a known one, which stands in the four bytes of its envelope, padded with zeros
    in_envelope : {held : ℕ} (t : Term) (envelope : ℕ) (from : Position) (fault : DecodeFault)
        → CanHold ds m.bytes (Some t) envelope → size_of ds t ≤ 4
        → BreaksParts ds m held 4 envelope 0 (record { offset = 0; term = t } ∷ [])
        (opened envelope from) fault → BreaksMember ds m held (Some t) envelope from fault
    -- in a known one out of line, which is the next object, padded to a multiple of 8
    out_of_line : {held : ℕ} (t : Term) (envelope : ℕ) (from : Position) (fault : DecodeFault)
        → CanHold ds m.bytes (Some t) envelope → 4 < size_of ds t
        → IsRightEnvelope ds m held (Some t) envelope from
        → BreaksParts ds m (held + 1) (next_multiple_of (size_of ds t) 8) from.next 0
        (record { offset = 0; term = t } ∷ [])
        (linked envelope (size_of ds t) (opened envelope from)) fault
        → BreaksMember ds m held (Some t) envelope from fault
    -- a known one stands, and its envelope counts other bytes or handles
    by_counts : {held : ℕ} (t : Term) (envelope : ℕ) (from : Position)
        → Miscounts ds m held t envelope from
        → BreaksMember ds m held (Some t) envelope from (WrongCounts envelope)

  -- the same of the parts of an object of this size at a base, where `done` bytes of it are right
  pub data BreaksParts (ds : Declarations) (m : Message) : (held size base done : ℕ) → List Part
      → Position → DecodeFault → Type 0 where
    -- the gap before the next part
    in_gap : {held : ℕ} (size base done : ℕ) (p : Part) (ps : List Part) (from : Position)
        (fault : DecodeFault) → IsPadding m.bytes (base + done) (base + p.offset) fault
        → BreaksParts ds m held size base done (p ∷ ps) from fault
    -- the next part, behind zeros
    in_next : {held : ℕ} (size base done : ℕ) (p : Part) (ps : List Part) (from : Position)
        (fault : DecodeFault) → Stands m.bytes (base + done) (zeros (p.offset - done))
        → Breaks ds m held (resolve ds.terms p.term) (base + p.offset) from fault
        → BreaksParts ds m held size base done (p ∷ ps) from fault
    -- a later one, where a value stands as the next part
    in_later : {held : ℕ} (size base done : ℕ) (p : Part) (ps : List Part) (from mid : Position)
        (fault : DecodeFault) → Stands m.bytes (base + done) (zeros (p.offset - done))
        → ValueAt ds m held (resolve ds.terms p.term) (base + p.offset) from mid
        → BreaksParts ds m held size base (p.offset + size_of ds p.term) ps mid fault
        → BreaksParts ds m held size base done (p ∷ ps) from fault
    -- the gap at the object's end
    in_end : {held : ℕ} (size base done : ℕ) (from : Position) (fault : DecodeFault)
        → IsPadding m.bytes (base + done) (base + size) fault
        → BreaksParts ds m held size base done [] from fault
