-- Envelopes in a message: the members that stand in them, and the rules that they break by
-- themselves (docs/decoding.md, "Refusals").
use Rattle.std.specs.Prelude.{◌≡◌, ◌≢◌, ◌⊎◌, ℕ, ◌+◌, ◌-◌, ◌<◌, ◌≤◌, Bool, true, false, nat_le, List}
use Rattle.std.specs.Prelude.{length, Option, Some, None}
use Rattle.std.specs.Int.{next_multiple_of}
use Rattle.fidl_limits.specs.declared.limits.TheConstants.{MAX_DEPTH, MAX_MESSAGE_BYTES}
use Rattle.fidl_limits.specs.declared.limits.TheConstants.{MAX_MESSAGE_HANDLES}
use Rattle.fidl_wire.specs.Value.{Member}
use Rattle.fidl_wire.specs.Term.{Term, resolve}
use Rattle.fidl_wire.specs.Figure.{Declarations, size_of}
use Rattle.fidl_wire.specs.Typed.{IsTypedMember, IsUnknownLength}
use Rattle.fidl_wire.specs.Encoding.{enveloped}
use Rattle.fidl_wire.specs.Depth.{member_depth}
use Rattle.fidl_wire.specs.Envelope.{bytes_below, handles_below, flags_at}
use Rattle.fidl_decode_model.specs.declared.frame.Until.{Until}
use Rattle.fidl_decode_model.specs.declared.fault.DecodeFault.{DecodeFault}
use Rattle.fidl_decode_model.specs.declared.fault.DecodeFault.TheVariants.{BadEnvelope}
use Rattle.fidl_decode_model.specs.declared.fault.DecodeFault.TheVariants.{TooDeep, Truncated}
use Rattle.fidl_decode_model.specs.declared.fault.DecodeFault.TheVariants.{HandleMissing}
use Rattle.fidl_decode_model.specs.declared.fault.DecodeFault.TheVariants.{WrongCounts}
use Rattle.fidl_decode_model.specs.State.{Message, Position, StandsAt, ValueAt, member_at, begun}
use Rattle.fidl_decode_model.specs.State.{after_member}

-- a member stands in or behind the envelope at a place, below this depth, and leads from one state
-- to another; known where there is a type
pub record Contained (ds : Declarations) (m : Message) (held : ℕ) (t : Option Term) (envelope : ℕ)
    (from to : Position) : Type 0 where
  pub content : Member
  pub typed : IsTypedMember ds false t content
  pub shallow : member_depth ds t content + held ≤ MAX_DEPTH
  pub stands : StandsAt m (enveloped ds t content) envelope from
  pub end : to ≡ after_member ds t content envelope from

-- a member can be in an envelope: it is of at most four bytes, or unknown
abbrev pub CanBeInline : Declarations → Option Term → Type 0
CanBeInline ds None = Unit {0}
CanBeInline ds (Some t) = size_of ds t ≤ 4

-- it can be out of line: it is of more than four bytes, or unknown
abbrev pub CanBeOut : Declarations → Option Term → Type 0
CanBeOut ds None = Unit {0}
CanBeOut ds (Some t) = 4 < size_of ds t

-- the numbers of an envelope can be those of its member
abbrev pub CanHold : Declarations → List ℕ → Option Term → (envelope : ℕ) → Type 0
CanHold ds bytes t envelope = ((flags_at bytes envelope ≡ 1) × CanBeInline ds t)
    ⊎ ((flags_at bytes envelope ≡ 0) × IsUnknownLength false (bytes_below bytes envelope)
    × CanBeOut ds t)

-- the first object out of line of a member has this many bytes: padded, of a known one
abbrev pub first_object : Declarations → List ℕ → Option Term → (envelope : ℕ) → ℕ
first_object ds bytes None envelope = bytes_below bytes envelope
first_object ds bytes (Some t) envelope = next_multiple_of (size_of ds t) 8

-- an envelope counts more handles than a message can have, or more bytes out of line
abbrev pub CountsTooMany : List ℕ → (envelope : ℕ) → Type 0
CountsTooMany bytes envelope = (MAX_MESSAGE_HANDLES < handles_below bytes envelope)
    ⊎ ((flags_at bytes envelope ≡ 0) × (MAX_MESSAGE_BYTES < bytes_below bytes envelope))

-- the rule that an envelope breaks by its numbers: they cannot be those of its member, or what is
-- out of line lies too deep or does not fit the message, or that of a known member counts more than
-- a message can have, or an unknown member has more handles than are left
abbrev pub BreaksEnvelope : Declarations → Message → (held : ℕ) → Option Term
    → (envelope next k : ℕ) → DecodeFault → Type 0
BreaksEnvelope ds m held t envelope next k (BadEnvelope at) = (at ≡ envelope)
    × ¬ (CanHold ds m.bytes t envelope)
BreaksEnvelope ds m held t envelope next k (TooDeep at) = (at ≡ envelope)
    × (flags_at m.bytes envelope ≡ 0) × (MAX_DEPTH ≤ held)
BreaksEnvelope ds m held t envelope next k (Truncated at) = (at ≡ next)
    × (flags_at m.bytes envelope ≡ 0)
    × (length m.bytes - next < first_object ds m.bytes t envelope)
BreaksEnvelope ds m held (Some t) envelope next k (WrongCounts at) = (at ≡ envelope)
    × CountsTooMany m.bytes envelope
BreaksEnvelope ds m held None envelope next k (HandleMissing at) = (at ≡ envelope)
    × (length m.handles - k < handles_below m.bytes envelope)
BreaksEnvelope ds m held t envelope next k fault = ⊥

-- the envelope breaks no rule by its numbers
abbrev pub IsRightEnvelope : Declarations → Message → (held : ℕ) → Option Term → (envelope : ℕ)
    → Position → Type 0
IsRightEnvelope ds m held t envelope from = (other : DecodeFault)
    → ¬ (BreaksEnvelope ds m held t envelope from.next from.handle other)

-- how deep a known member of an envelope lies
abbrev pub depth_within : (inline : Bool) → (held : ℕ) → ℕ
depth_within true held = held
depth_within false held = held + 1

-- a known member leads to a state, and its envelope counts other bytes or handles than lie between
abbrev pub Miscounts : Declarations → Message → (held : ℕ) → Term → (envelope : ℕ) → Position
    → Type 0
Miscounts ds m held t envelope from = let inline = nat_le (size_of ds t) 4 in
    (to : Position) × ValueAt ds m (depth_within inline held) (resolve ds.terms t)
    (member_at inline envelope from) (begun inline envelope (size_of ds t) from) to
    × ((handles_below m.bytes envelope ≢ to.handle - from.handle)
    ⊎ ((inline ≡ false) × (bytes_below m.bytes envelope ≢ to.next - from.next)))

-- a state at the end of an envelope's content is the one that the envelope counts up to
abbrev pub IsUntil : Until → Position → Type 0
IsUntil until to = (to.next ≡ until.next) × (to.handle ≡ until.handle)
