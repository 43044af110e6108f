-- What the command `dump` answers (docs/program.md, "dump").
use Rattle.std.specs.Prelude.{◌≡◌, ⊤, ℕ, ◌-◌, Bool, true, false, List, ◌++◌, codes, decimal, Option}
use Rattle.std.specs.Prelude.{Some, None}
use Rattle.fidl_table_format.specs.Section.{header_of}
use Rattle.fidl_table_format.specs.Protocol.{IsFirstProtocol, HasNoProtocol}
use Rattle.fidl_table_format.specs.WellFormed.{WellFormed}
use Rattle.fidl_verify.specs.Faults.{Breaks}
use Rattle.fidl_verify.specs.Lookups.{TableProtocol}
use Rattle.fidl_verify.specs.declared.fault.TableFault.{TableFault}
use Rattle.fidl_frames.specs.Frames.{frames_of, between}
use Rattle.fidl_dump.specs.declared.direction.Direction.{Direction}
use Rattle.fidl_dump.specs.declared.direction.Direction.TheVariants.{Requests, Responses}
use Rattle.fidl_dump.specs.declared.fault.FrameFault.{FrameFault}
use Rattle.fidl_dump.specs.Faults.{IsFaultAt, stage_of, number_of, name_of, place_of}
use Rattle.fidl_dump.specs.Printed.{PrintsLines, PrintsFront, first_frames}
use Rattle.fidl_commands.specs.Decoding.{refusal_line, placeless_line, table_line}
use Rattle.fidl_commands.specs.Naming.{TellsUnnamed}
use Rattle.fidl_commands.specs.declared.naming.Named.TheVariants.{Protocols}
use Rattle.fidl_commands.specs.declared.outcome.Outcome.{Outcome}
use Rattle.fidl_commands.specs.declared.outcome.Outcome.TheVariants.{Done, Refused, NoProtocol}
use Rattle.fidl_commands.specs.declared.outcome.Outcome.TheVariants.{Unwritten, NoMemory}
use Rattle.fidl_stream_commands.specs.declared.dumping.Recorded.{Recorded}

-- the table is accepted, and this is its first protocol of this name
pub record IsProtocolNamed (table name : List ℕ) (p : TableProtocol) : Type 0 where
  pub well_formed : WellFormed table
  pub of_table : p.table ≡ table
  pub first : IsFirstProtocol table (header_of table) name p.number

-- the table is accepted, and has no protocol of this name
pub record LacksProtocol (table name : List ℕ) : Type 0 where
  pub well_formed : WellFormed table
  pub none : HasNoProtocol table (header_of table) name

-- the line for a protocol that the table of a file does not have is printed
abbrev pub TellsNoProtocol : (table file name : List ℕ) (old new : Option (List ℕ)) → Type 0
TellsNoProtocol = TellsUnnamed Protocols

-- which messages frames hold, by whether `--response` is given
abbrev pub direction_of : (response : Bool) → Direction
direction_of true = Responses
direction_of false = Requests

-- the input ends between frames, and the lines of all its frames were printed
pub record IsDumped (table name : List ℕ) (direction : Direction) (input : List ℕ)
    (old new : Option (List ℕ)) : Type 0 where
  pub protocol : TableProtocol
  pub named : IsProtocolNamed table name protocol
  pub whole : (frames_of input).tail ≡ between
  pub lines : PrintsLines protocol direction (frames_of input).frames old new

-- a front of the lines of the first frames was printed, of so many
pub record IsDumpedInPart (table name : List ℕ) (direction : Direction) (input : List ℕ)
    (old new : Option (List ℕ)) : Type 0 where
  pub protocol : TableProtocol
  pub named : IsProtocolNamed table name protocol
  pub count : ℕ
  pub front : PrintsFront protocol direction (first_frames count input) old new

-- the line of a frame's fault, with its offset where it has one, behind the frame's number
abbrev pub fault_line_at : FrameFault → (place : Option ℕ) → List ℕ
fault_line_at f (Some place) = refusal_line (stage_of f) (number_of f) (name_of f) place
fault_line_at f None = placeless_line (stage_of f) (number_of f) (name_of f)

abbrev pub frame_line : (number : ℕ) → FrameFault → List ℕ
frame_line number f =
    codes "frame " ++ decimal number ++ codes ": " ++ fault_line_at f (place_of f)

-- the frame of this number, from 1, has this fault, and the lines of all frames before it were
-- printed
pub record IsStoppedAt (p : TableProtocol) (direction : Direction) (input : List ℕ)
    (old new : Option (List ℕ)) (number : ℕ) (f : FrameFault) : Type 0 where
  pub fault : IsFaultAt p direction input number f
  pub before : PrintsLines p direction (first_frames (number - 1) input) old new

-- the lines that are true refusals: of a table, which is told by a rule that it breaks; or of a
-- frame
pub data IsDumpRefusal (table name : List ℕ) (direction : Direction) (input : List ℕ)
    (old new : Option (List ℕ)) : List ℕ → Type 0 where
  of_table : (f : TableFault) → ¬ WellFormed table → Breaks table f → new ≡ old
      → IsDumpRefusal table name direction input old new (table_line f)
  of_frame : (p : TableProtocol) → (number : ℕ) → (f : FrameFault)
      → IsProtocolNamed table name p → IsStoppedAt p direction input old new number f
      → IsDumpRefusal table name direction input old new (frame_line number f)

-- the same of recorded frames
abbrev pub IsDumpedOf : (table : List ℕ) → Recorded → (old new : Option (List ℕ)) → Type 0
IsDumpedOf table r = IsDumped table r.protocol.now r.direction r.frames.now

abbrev pub IsDumpedInPartOf : (table : List ℕ) → Recorded → (old new : Option (List ℕ)) → Type 0
IsDumpedInPartOf table r = IsDumpedInPart table r.protocol.now r.direction r.frames.now

abbrev pub IsDumpRefusalOf : (table : List ℕ) → Recorded → (old new : Option (List ℕ)) → List ℕ
    → Type 0
IsDumpRefusalOf table r = IsDumpRefusal table r.protocol.now r.direction r.frames.now

-- what can happen to `dump`
abbrev pub CanEndDump : Outcome → Type 0
CanEndDump Done = ⊤
CanEndDump Refused = ⊤
CanEndDump NoProtocol = ⊤
CanEndDump Unwritten = ⊤
CanEndDump NoMemory = ⊤
CanEndDump _ = ⊥

-- what can happen to it with its protocol found
abbrev pub CanEndDumpBy : Outcome → Type 0
CanEndDumpBy Done = ⊤
CanEndDumpBy Refused = ⊤
CanEndDumpBy Unwritten = ⊤
CanEndDumpBy NoMemory = ⊤
CanEndDumpBy _ = ⊥
