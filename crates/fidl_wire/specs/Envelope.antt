-- What envelopes say: their numbers, and where a member lies by them (docs/wire.md, "Envelopes").
use Rattle.std.specs.Prelude.{ℕ, ◌≡◌, ◌≢◌, ◌+◌, List}
use Rattle.std.specs.Int.{w16, w32}
use Rattle.fidl_wire.specs.declared.envelope.EnvelopeContent.{EnvelopeContent}
use Rattle.fidl_wire.specs.declared.envelope.EnvelopeContent.TheVariants.{Absent, Inline, OutOfLine}
use Rattle.fidl_wire.specs.declared.envelope.EnvelopeContent.TheVariants.{Refused}
use Rattle.fidl_wire.specs.Encoding.{zeros}
use Rattle.fidl_wire.specs.Field.{number_at}
use Rattle.fidl_wire.specs.Standing.{Stands}

-- how many bytes lie out of line below the envelope at a place
abbrev pub bytes_below : List ℕ → (envelope : ℕ) → ℕ
bytes_below bytes envelope = number_at w32 bytes envelope

-- how many handles lie below it
abbrev pub handles_below : List ℕ → (envelope : ℕ) → ℕ
handles_below bytes envelope = number_at w16 bytes (envelope + 4)

-- its flags
abbrev pub flags_at : List ℕ → (envelope : ℕ) → ℕ
flags_at bytes envelope = number_at w16 bytes (envelope + 6)

-- where the member of the envelope at a place lies: nowhere where all eight bytes are zeros, in the
-- envelope with flags 1, and out of line with flags 0; other flags are refused
abbrev pub Holds : List ℕ → (envelope : ℕ) → EnvelopeContent → Type 0
Holds bytes envelope Absent = Stands bytes envelope (zeros 8)
Holds bytes envelope Inline = flags_at bytes envelope ≡ 1
Holds bytes envelope OutOfLine =
    (flags_at bytes envelope ≡ 0) × ¬ (Stands bytes envelope (zeros 8))
Holds bytes envelope Refused =
    (flags_at bytes envelope ≢ 0) × (flags_at bytes envelope ≢ 1)
