-- What a dump has written (docs/program.md, "dump").
use Rattle.std.specs.Prelude.{◌≡◌, ℕ, List, take, Option, None, IsSome, Result}
use Rattle.std.specs.Prelude.{Ok, Err}
use Rattle.std.specs.Io.KnownBytes.{Appends}
use Rattle.fidl_frames.specs.Frames.{frames_of}
use Rattle.fidl_verify.specs.Lookups.{TableProtocol}
use Rattle.fidl_text.specs.Outputs.{AppendsFront}
use Rattle.fidl_dump.specs.declared.direction.Direction.{Direction}
use Rattle.fidl_dump.specs.declared.fault.FrameFault.{FrameFault}
use Rattle.fidl_dump.specs.declared.frame.Unprinted.{Unprinted}
use Rattle.fidl_dump.specs.declared.frame.Unprinted.TheVariants.{Refused, Write}
use Rattle.fidl_dump.specs.Lines.{AreLines}

-- the lines of all these frames were written
abbrev pub PrintsLines : TableProtocol → Direction → (frames : List (List ℕ))
    → (old new : Option (List ℕ)) → Type 0
PrintsLines p direction frames old new =
    (text : List ℕ) × AreLines p direction frames text × Appends old new text

-- a front of the lines of these frames was written
abbrev pub PrintsFront : TableProtocol → Direction → (frames : List (List ℕ))
    → (old new : Option (List ℕ)) → Type 0
PrintsFront p direction frames old new =
    (text : List ℕ) × AreLines p direction frames text × AppendsFront old new text

-- the first frames of an input, so many of them
abbrev pub first_frames : (count : ℕ) → (input : List ℕ) → List (List ℕ)
first_frames count input = take count (frames_of input).frames

-- what the printing of one frame came to: its line is written, or it has none and nothing is
-- written, or a front of its line is written
abbrev pub Prints : {T : Type 0} → (Line : List ℕ → Type 0) → (Fault : FrameFault → Type 0)
    → (old new : Option (List ℕ)) → Result T Unprinted → Type 0
Prints Line Fault old new (Ok x) = (line : List ℕ) × Line line × Appends old new line
Prints Line Fault old new (Err (Refused fault)) = Fault fault × (new ≡ old)
Prints Line Fault old new (Err Write) = (line : List ℕ) × Line line × AppendsFront old new line

-- the error that an output keeps then: none after `Ok` where there was none, the same where nothing
-- is written, and some after a write that failed
abbrev pub KeepsError : {T E : Type 0} → (old new : Option E) → Result T Unprinted → Type 0
KeepsError old new (Ok x) = old ≡ None → new ≡ None
KeepsError old new (Err (Refused fault)) = new ≡ old
KeepsError old new (Err Write) = IsSome new
