-- What the commands over streams of frames answer to their arguments and files (docs/program.md).
use Rattle.std.specs.Prelude.{◌≡◌, ◌⊎◌, ⊤, ℕ, List, Option, Some, Result, IfSome}
use Rattle.fidl_requests.specs.declared.ended.Ended.{Ended}
use Rattle.fidl_serve.specs.declared.fault.ServeFault.{ServeFault}
use Rattle.fidl_command_line.specs.declared.streams.ServeArguments.{ServeArguments}
use Rattle.fidl_commands.specs.Files.{IsMissing}
use Rattle.fidl_commands.specs.Running.{OfTable}
use Rattle.fidl_commands.specs.declared.outcome.Outcome.{Outcome}
use Rattle.fidl_commands.specs.declared.outcome.Outcome.TheVariants.{Done, Refused, NoFile, Unread}
use Rattle.fidl_commands.specs.declared.outcome.Outcome.TheVariants.{Unwritten, NoMemory}
use Rattle.fidl_stream_commands.specs.Serving.{Reading, IsServed, IsCut, IsBrokenOff}
use Rattle.fidl_stream_commands.specs.Serving.{IsServeRefusal}

-- where the bytes of the table's file and of the script's are known, this holds of them
abbrev pub OfServed : (bytes_of : List ℕ → Option (List ℕ)) → ServeArguments
    → (List ℕ → List ℕ → Type 0) → Type 0
OfServed bytes_of given Holds = OfTable bytes_of given.table.now
    (λ table. OfTable bytes_of given.script.now (λ text. Holds table text))

-- the reader had the bytes of this input, where they are known
abbrev pub Reads : (input : Option (List ℕ)) → Reading → Type 0
Reads input r = IfSome input (λ bytes. r.has ≡ Some bytes)

-- the service was run over this input, with this result
abbrev pub IsServedFrom : (input : Option (List ℕ)) → (table text : List ℕ)
    → (old new : Option (List ℕ)) → Result Ended ServeFault → Type 0
IsServedFrom input table text old new result =
    (r : Reading) × Reads input r × IsServed table text r old new result

-- the line is a true refusal of the table, of the script, or of this input
abbrev pub IsServeRefusalFrom : (input : Option (List ℕ)) → (table text : List ℕ)
    → (old new : Option (List ℕ)) → List ℕ → Type 0
IsServeRefusalFrom input table text old new line =
    (r : Reading) × Reads input r × IsServeRefusal table text r old new line

-- the service was run over this input, and broken off by a write that failed, after so many whole
-- replies
abbrev pub IsCutFrom : (input : Option (List ℕ)) → (table text : List ℕ)
    → (old new : Option (List ℕ)) → Type 0
IsCutFrom input table text old new =
    (r : Reading) × Reads input r × IsCut table text r old new

-- the service was run over this input, which did not end between frames
abbrev pub IsBrokenOffFrom : (input : Option (List ℕ)) → (table text : List ℕ)
    → (old new : Option (List ℕ)) → Type 0
IsBrokenOffFrom input table text old new =
    (r : Reading) × Reads input r × IsBrokenOff table text r old new

-- `serve` lacks the table's file, or the script's
abbrev pub LacksServed : (bytes_of : List ℕ → Option (List ℕ)) → ServeArguments
    → (old new : Option (List ℕ)) → Type 0
LacksServed bytes_of given old new = IsMissing bytes_of given.table.now old new
    ⊎ IsMissing bytes_of given.script.now old new

-- what can happen to `serve` with its arguments read, and its files to be read
abbrev pub CanEndServeRun : Outcome → Type 0
CanEndServeRun Done = ⊤
CanEndServeRun Refused = ⊤
CanEndServeRun NoFile = ⊤
CanEndServeRun Unread = ⊤
CanEndServeRun Unwritten = ⊤
CanEndServeRun NoMemory = ⊤
CanEndServeRun _ = ⊥
