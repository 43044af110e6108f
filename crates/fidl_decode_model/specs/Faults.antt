-- What each refusal says of a message (docs/decoding.md, "Refusals").
use Rattle.std.specs.Prelude.{◌≡◌, ◌<◌, ◌≤◌, ◌⊎◌, ℕ, List, [], length, take, codes}
use Rattle.std.specs.Int.{next_multiple_of}
use Rattle.fidl_wire.specs.declared.handle.HandleInfo.{HandleInfo}
use Rattle.fidl_limits.specs.declared.limits.TheConstants.{MAX_MESSAGE_BYTES, MAX_MESSAGE_HANDLES}
use Rattle.fidl_wire.specs.Term.{Term, resolve}
use Rattle.fidl_wire.specs.Figure.{Declarations, size_of}
use Rattle.fidl_wire.specs.Message.{IsEncoding}
use Rattle.fidl_decode_model.specs.State.{Message, Position}
use Rattle.fidl_decode_model.specs.Breaks.{IsPadding, Breaks}
use Rattle.fidl_decode_model.specs.declared.fault.DecodeFault.{DecodeFault}
use Rattle.fidl_decode_model.specs.declared.fault.DecodeFault.TheVariants.{TooLong, TooManyHandles}
use Rattle.fidl_decode_model.specs.declared.fault.DecodeFault.TheVariants.{Truncated, Padding}
use Rattle.fidl_decode_model.specs.declared.fault.DecodeFault.TheVariants.{BadBool}
use Rattle.fidl_decode_model.specs.declared.fault.DecodeFault.TheVariants.{UnknownValue}
use Rattle.fidl_decode_model.specs.declared.fault.DecodeFault.TheVariants.{UnknownBits}
use Rattle.fidl_decode_model.specs.declared.fault.DecodeFault.TheVariants.{BadMarker}
use Rattle.fidl_decode_model.specs.declared.fault.DecodeFault.TheVariants.{AbsentRequired}
use Rattle.fidl_decode_model.specs.declared.fault.DecodeFault.TheVariants.{BadCount, OverBound}
use Rattle.fidl_decode_model.specs.declared.fault.DecodeFault.TheVariants.{NotUtf8}
use Rattle.fidl_decode_model.specs.declared.fault.DecodeFault.TheVariants.{BadEnvelope, WrongCounts}
use Rattle.fidl_decode_model.specs.declared.fault.DecodeFault.TheVariants.{UnknownOrdinal}
use Rattle.fidl_decode_model.specs.declared.fault.DecodeFault.TheVariants.{TooDeep, HandleMissing}
use Rattle.fidl_decode_model.specs.declared.fault.DecodeFault.TheVariants.{WrongHandle, BytesLeft}
use Rattle.fidl_decode_model.specs.declared.fault.DecodeFault.TheVariants.{HandlesLeft}

-- the message is within the limits
abbrev pub IsWithin : List ℕ → List HandleInfo → Type 0
IsWithin bytes handles = (length bytes ≤ MAX_MESSAGE_BYTES) × (length handles ≤ MAX_MESSAGE_HANDLES)

-- the primary object, padded to a multiple of 8, has this many bytes
abbrev pub primary_size : Declarations → Term → ℕ
primary_size ds t = next_multiple_of (size_of ds t) 8

-- bytes and handles as one
abbrev pub message_of : List ℕ → List HandleInfo → Message
message_of bytes handles = record { bytes = bytes; handles = handles }

-- where a message begins: the objects out of line stand behind the padded primary object; nothing
-- is linked
abbrev pub start_of : (size : ℕ) → Position
start_of size = record { next = next_multiple_of size 8; handle = 0; objects = []; records = [] }

-- the message breaks a rule of the type: in the padding behind its primary object, or in that
-- object or what lies below it
abbrev pub BreaksMessage : Declarations → Term → Message → DecodeFault → Type 0
BreaksMessage ds t m fault = IsPadding m.bytes (size_of ds t) (primary_size ds t) fault
    ⊎ Breaks ds m 0 (resolve ds.terms t) 0 (start_of (size_of ds t)) fault

-- the refusal is true of these bytes and handles, as a message of this type, at its place
abbrev pub IsTold : Declarations → Term → List ℕ → List HandleInfo → DecodeFault → Type 0
IsTold ds t bytes handles (TooLong at) = (at ≡ 0) × (MAX_MESSAGE_BYTES < length bytes)
IsTold ds t bytes handles (TooManyHandles at) = (at ≡ 0) × (length bytes ≤ MAX_MESSAGE_BYTES)
    × (MAX_MESSAGE_HANDLES < length handles)
IsTold ds t bytes handles (Truncated at) = IsWithin bytes handles
    × (((at ≡ 0) × (length bytes < primary_size ds t))
    ⊎ BreaksMessage ds t (message_of bytes handles) (Truncated at))
IsTold ds t bytes handles (Padding at) = IsWithin bytes handles
    × BreaksMessage ds t (message_of bytes handles) (Padding at)
IsTold ds t bytes handles (BadBool at) = IsWithin bytes handles
    × BreaksMessage ds t (message_of bytes handles) (BadBool at)
IsTold ds t bytes handles (UnknownValue at) = IsWithin bytes handles
    × BreaksMessage ds t (message_of bytes handles) (UnknownValue at)
IsTold ds t bytes handles (UnknownBits at) = IsWithin bytes handles
    × BreaksMessage ds t (message_of bytes handles) (UnknownBits at)
IsTold ds t bytes handles (BadMarker at) = IsWithin bytes handles
    × BreaksMessage ds t (message_of bytes handles) (BadMarker at)
IsTold ds t bytes handles (AbsentRequired at) = IsWithin bytes handles
    × BreaksMessage ds t (message_of bytes handles) (AbsentRequired at)
IsTold ds t bytes handles (BadCount at) = IsWithin bytes handles
    × BreaksMessage ds t (message_of bytes handles) (BadCount at)
IsTold ds t bytes handles (OverBound at) = IsWithin bytes handles
    × BreaksMessage ds t (message_of bytes handles) (OverBound at)
IsTold ds t bytes handles (NotUtf8 at) = IsWithin bytes handles
    × BreaksMessage ds t (message_of bytes handles) (NotUtf8 at)
IsTold ds t bytes handles (BadEnvelope at) = IsWithin bytes handles
    × BreaksMessage ds t (message_of bytes handles) (BadEnvelope at)
IsTold ds t bytes handles (WrongCounts at) = IsWithin bytes handles
    × BreaksMessage ds t (message_of bytes handles) (WrongCounts at)
IsTold ds t bytes handles (UnknownOrdinal at) = IsWithin bytes handles
    × BreaksMessage ds t (message_of bytes handles) (UnknownOrdinal at)
IsTold ds t bytes handles (TooDeep at) = IsWithin bytes handles
    × BreaksMessage ds t (message_of bytes handles) (TooDeep at)
IsTold ds t bytes handles (HandleMissing at) = IsWithin bytes handles
    × BreaksMessage ds t (message_of bytes handles) (HandleMissing at)
IsTold ds t bytes handles (WrongHandle at) = IsWithin bytes handles
    × BreaksMessage ds t (message_of bytes handles) (WrongHandle at)
IsTold ds t bytes handles (BytesLeft at) = IsWithin bytes handles × (at < length bytes)
    × ((n : ℕ) × IsEncoding ds t (take at bytes) (take n handles))
IsTold ds t bytes handles (HandlesLeft at) = IsWithin bytes handles × (at ≡ length bytes)
    × ((n : ℕ) × (n < length handles) × IsEncoding ds t bytes (take n handles))

-- the refusal's number
abbrev pub number_of : DecodeFault → ℕ
number_of (TooLong at) = 1
number_of (TooManyHandles at) = 2
number_of (Truncated at) = 3
number_of (Padding at) = 4
number_of (BadBool at) = 5
number_of (UnknownValue at) = 6
number_of (UnknownBits at) = 7
number_of (BadMarker at) = 8
number_of (AbsentRequired at) = 9
number_of (BadCount at) = 10
number_of (OverBound at) = 11
number_of (NotUtf8 at) = 12
number_of (BadEnvelope at) = 13
number_of (WrongCounts at) = 14
number_of (UnknownOrdinal at) = 15
number_of (TooDeep at) = 16
number_of (HandleMissing at) = 17
number_of (WrongHandle at) = 18
number_of (BytesLeft at) = 19
number_of (HandlesLeft at) = 20

-- the refusal's name
abbrev pub name_of : DecodeFault → List ℕ
name_of (TooLong at) = codes "TooLong"
name_of (TooManyHandles at) = codes "TooManyHandles"
name_of (Truncated at) = codes "Truncated"
name_of (Padding at) = codes "Padding"
name_of (BadBool at) = codes "BadBool"
name_of (UnknownValue at) = codes "UnknownValue"
name_of (UnknownBits at) = codes "UnknownBits"
name_of (BadMarker at) = codes "BadMarker"
name_of (AbsentRequired at) = codes "AbsentRequired"
name_of (BadCount at) = codes "BadCount"
name_of (OverBound at) = codes "OverBound"
name_of (NotUtf8 at) = codes "NotUtf8"
name_of (BadEnvelope at) = codes "BadEnvelope"
name_of (WrongCounts at) = codes "WrongCounts"
name_of (UnknownOrdinal at) = codes "UnknownOrdinal"
name_of (TooDeep at) = codes "TooDeep"
name_of (HandleMissing at) = codes "HandleMissing"
name_of (WrongHandle at) = codes "WrongHandle"
name_of (BytesLeft at) = codes "BytesLeft"
name_of (HandlesLeft at) = codes "HandlesLeft"

-- the refusal's offset
abbrev pub place_of : DecodeFault → ℕ
place_of (TooLong at) = at
place_of (TooManyHandles at) = at
place_of (Truncated at) = at
place_of (Padding at) = at
place_of (BadBool at) = at
place_of (UnknownValue at) = at
place_of (UnknownBits at) = at
place_of (BadMarker at) = at
place_of (AbsentRequired at) = at
place_of (BadCount at) = at
place_of (OverBound at) = at
place_of (NotUtf8 at) = at
place_of (BadEnvelope at) = at
place_of (WrongCounts at) = at
place_of (UnknownOrdinal at) = at
place_of (TooDeep at) = at
place_of (HandleMissing at) = at
place_of (WrongHandle at) = at
place_of (BytesLeft at) = at
place_of (HandlesLeft at) = at
