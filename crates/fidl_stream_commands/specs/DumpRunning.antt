-- What the command `dump` answers to its arguments and files (docs/program.md).
use Rattle.std.specs.Prelude.{◌≡◌, ◌⊎◌, ⊤, ℕ, List, Option, IfSome}
use Rattle.fidl_command_line.specs.declared.streams.DumpArguments.{DumpArguments}
use Rattle.fidl_commands.specs.Files.{IsMissing}
use Rattle.fidl_commands.specs.Running.{OfTable}
use Rattle.fidl_commands.specs.declared.outcome.Outcome.{Outcome}
use Rattle.fidl_commands.specs.declared.outcome.Outcome.TheVariants.{Done, Refused, NoFile}
use Rattle.fidl_commands.specs.declared.outcome.Outcome.TheVariants.{NoProtocol, Unwritten, NoMemory}
use Rattle.fidl_stream_commands.specs.Dumping.{direction_of, IsDumped, IsDumpedInPart}
use Rattle.fidl_stream_commands.specs.Dumping.{IsDumpRefusal, LacksProtocol, TellsNoProtocol}

-- where the bytes of the table's file and of the frames' are known, this holds of them
abbrev pub OfDumped : (bytes_of : List ℕ → Option (List ℕ)) → DumpArguments
    → (List ℕ → List ℕ → Type 0) → Type 0
OfDumped bytes_of given Holds = OfTable bytes_of given.table.now
    (λ table. OfTable bytes_of given.file.now (λ input. Holds table input))

-- the lines of all frames of this input were printed, by this table and the arguments
abbrev pub IsDumpedBy : DumpArguments → (table input : List ℕ) → (old new : Option (List ℕ)) → Type 0
IsDumpedBy given table input old new =
    IsDumped table given.protocol.now (direction_of given.response) input old new

-- a front of the lines of its first frames was printed
abbrev pub IsDumpedInPartBy : DumpArguments → (table input : List ℕ) → (old new : Option (List ℕ))
    → Type 0
IsDumpedInPartBy given table input old new =
    IsDumpedInPart table given.protocol.now (direction_of given.response) input old new

-- the line is a true refusal of the table, or of a frame of the input
abbrev pub IsDumpRefusalBy : DumpArguments → (table input : List ℕ) → (old new : Option (List ℕ))
    → List ℕ → Type 0
IsDumpRefusalBy given table input old new line =
    IsDumpRefusal table given.protocol.now (direction_of given.response) input old new line

-- `dump` lacks the table's file, or the frames'
abbrev pub LacksDumped : (bytes_of : List ℕ → Option (List ℕ)) → DumpArguments
    → (old new : Option (List ℕ)) → Type 0
LacksDumped bytes_of given old new = IsMissing bytes_of given.table.now old new
    ⊎ IsMissing bytes_of given.file.now old new

-- the table of the arguments was read, and has no protocol of their name; the line for it is printed
pub record LacksProtocolIn (bytes_of : List ℕ → Option (List ℕ)) (given : DumpArguments)
    (old new : Option (List ℕ)) : Type 0 where
  pub table : List ℕ
  pub read : IfSome (bytes_of given.table.now) (λ bytes. table ≡ bytes)
  pub lacks : LacksProtocol table given.protocol.now
  pub line : TellsNoProtocol table given.table.now given.protocol.now old new

-- what can happen to `dump` with its arguments read, and its files to be read
abbrev pub CanEndDumpRun : Outcome → Type 0
CanEndDumpRun Done = ⊤
CanEndDumpRun Refused = ⊤
CanEndDumpRun NoFile = ⊤
CanEndDumpRun NoProtocol = ⊤
CanEndDumpRun Unwritten = ⊤
CanEndDumpRun NoMemory = ⊤
CanEndDumpRun _ = ⊥
