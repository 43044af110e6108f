-- What the program answers to its words and its files (docs/program.md, "Statuses").
use Rattle.std.specs.Prelude.{◌≡◌, ◌⊎◌, ⊤, ℕ, List, Option, Some, Ok, Err, Bool, false, IfSome, map}
use Rattle.std.specs.List.{AllZip}
use Rattle.std.specs.Io.KnownBytes.{Appends}
use Rattle.fidl_command_line.specs.Arguments.{IsGiven, IsUngiven}
use Rattle.fidl_text.specs.Outputs.{AppendsFront}
use Rattle.fidl_commands.specs.Contents.{OfMessage, OfText, HasNoBytes}
use Rattle.fidl_commands.specs.Encoding.{IsEncoded, IsEncodeRefusal}
use Rattle.fidl_commands.specs.Listing.{IsListing, IsTableRefusal}
use Rattle.fidl_requests.specs.declared.ended.Ended.TheVariants.{EndOfInput}
use Rattle.fidl_serve.specs.declared.fault.ServeFault.TheVariants.{Read}
use Rattle.fidl_stream_commands.specs.Serving.{fault_line}
use Rattle.fidl_stream_commands.specs.Running.{OfServed, IsServedFrom, IsServeRefusalFrom}
use Rattle.fidl_stream_commands.specs.Running.{IsBrokenOffFrom, LacksServed}
use Rattle.fidl_stream_commands.specs.DumpRunning.{OfDumped, IsDumpedBy, IsDumpedInPartBy}
use Rattle.fidl_stream_commands.specs.DumpRunning.{IsDumpRefusalBy, LacksDumped, LacksProtocolIn}
use Rattle.fidl_table_format.specs.WellFormed.{WellFormed}
use Rattle.fidl_compile.specs.Sources.{IsTableOf}
use Rattle.fidl_tool.specs.Compiling.{Named, texts_of, IsSourceRefusal}
use Rattle.fidl_commands.specs.Summary.{summary_line}
use Rattle.fidl_commands.specs.Migrating.{IsMigratedTo, IsMigratedInPart, LacksTableOrOut}
use Rattle.fidl_commands.specs.Files.{IsWritten, NamesFile, IsMissing, HasMissing}
use Rattle.fidl_commands.specs.Outputs.{AppendsOne}
use Rattle.fidl_commands.specs.Reasons.{outcome_of}
use Rattle.fidl_commands.specs.Running.{IsMessageText, IsMessageRefusal, Known, OfTable, PrintsFront, IsExplained, PrintsExplainedFront, LacksTableOrMessage, LacksTableOrText, LacksRootIn, LacksFault}
use Rattle.fidl_command_line.specs.declared.arguments.Arguments.{Arguments}
use Rattle.fidl_command_line.specs.declared.arguments.Arguments.TheVariants.{Compile, Decode, Encode, Table, Explain}
use Rattle.fidl_command_line.specs.declared.arguments.Arguments.TheVariants.{Dump, Serve, Migrate}
use Rattle.fidl_command_line.specs.declared.arguments.CompileArguments.{CompileArguments}
use Rattle.fidl_commands.specs.declared.outcome.Outcome.{Outcome}
use Rattle.fidl_commands.specs.declared.outcome.Outcome.TheVariants.{Asked, WrongLine, NoRoot, Done}
use Rattle.fidl_commands.specs.declared.outcome.Outcome.TheVariants.{Refused, Unwritten}
use Rattle.fidl_commands.specs.declared.outcome.Outcome.TheVariants.{NoFault, WrongText, NoProtocol}
use Rattle.fidl_commands.specs.declared.outcome.Outcome.TheVariants as outcome
use Rattle.fidl_tool.specs.declared.sources.Source.{Source}
use Rattle.fidl_command_line.specs.declared.unread.Unread.{Unread}

-- a source by its name and its bytes
abbrev pub stored_as : Source → Named
stored_as source = (source.name.now, source.bytes.items)

-- a file has this name, and just its bytes, as far as these are known
abbrev pub IsRead : (bytes_of : List ℕ → Option (List ℕ)) → (name : List ℕ) → Named → Type 0
IsRead bytes_of name file = (file.0 ≡ name) × IfSome (bytes_of name) (λ known. file.1 ≡ known)

abbrev pub AreRead : (bytes_of : List ℕ → Option (List ℕ)) → (names : List (List ℕ)) → List Named
    → Type 0
AreRead bytes_of names files = AllZip (IsRead bytes_of) names files

-- a file has this name, and its bytes are known
abbrev pub IsKnown : (bytes_of : List ℕ → Option (List ℕ)) → (name : List ℕ) → Named → Type 0
IsKnown bytes_of name file = (file.0 ≡ name) × (bytes_of name ≡ Some file.1)

-- where the bytes of all files of these names are known, this holds of the files
abbrev pub OfSources : (bytes_of : List ℕ → Option (List ℕ)) → (names : List (List ℕ))
    → (List Named → Type 0) → Type 0
OfSources bytes_of names Holds =
    (files : List Named) → AllZip (IsKnown bytes_of) names files → Holds files

-- the names of the sources of the arguments
abbrev pub sources_of : CompileArguments → List (List ℕ)
sources_of given = map (λ name. name.now) given.sources.items

-- this is the table of the sources
pub record IsCompiled (files : List Named) (table : List ℕ) : Type 0 where
  pub well_formed : WellFormed table
  pub shows : IsTableOf (texts_of files) table

-- the sources are compiled: their table is written, and what it holds is printed
pub record AreCompiled (given : CompileArguments) (files : List Named) (old new : Option (List ℕ))
    (before after : Option (List Named)) : Type 0 where
  pub table : List ℕ
  pub compiled : IsCompiled files table
  pub written : IsWritten before after given.out.now table
  pub printed : Appends old new (summary_line table)

-- their table is written, and a front of the line of what it holds is printed
pub record ArePrintedInPart (given : CompileArguments) (files : List Named)
    (old new : Option (List ℕ)) (before after : Option (List Named)) : Type 0 where
  pub table : List ℕ
  pub compiled : IsCompiled files table
  pub written : IsWritten before after given.out.now table
  pub front : AppendsFront old new (summary_line table)

-- what the command of the arguments prints and writes where it is done
abbrev pub IsDone : Known → Arguments → (old new : Option (List ℕ))
    → (before after : Option (List Named)) → Type 0
IsDone known (Compile given) old new before after = OfSources known.bytes_of (sources_of given)
    (λ files. AreCompiled given files old new before after)
IsDone known (Migrate given) old new before after = OfTable known.bytes_of given.table.now
    (λ table. IsMigratedTo given.out.now table old new before after)
IsDone known (Decode given) old new before after = OfTable known.bytes_of given.table.now
    (λ table. OfMessage known.bytes_of known.input given.message
    (λ bytes. AppendsOne (IsMessageText given table bytes) old new))
IsDone known (Encode given) old new before after = OfTable known.bytes_of given.table.now
    (λ table. OfText known.bytes_of known.input given.text
    (λ text. AppendsOne (IsEncoded table given.root.now text) old new))
IsDone known (Table given) old new before after = OfTable known.bytes_of given.file.now
    (λ table. AppendsOne (IsListing given.listing table) old new)
IsDone known (Dump given) old new before after = OfDumped known.bytes_of given
    (λ table input. IsDumpedBy given table input old new)
IsDone known (Serve given) old new before after = OfServed known.bytes_of given
    (λ table text. IsServedFrom known.input table text old new (Ok EndOfInput))
IsDone known (Explain asked) old new before after = AppendsOne (IsExplained asked) old new

-- what it prints and writes where its output fails
abbrev pub IsDoneInPart : Known → Arguments → (old new : Option (List ℕ))
    → (before after : Option (List Named)) → Type 0
IsDoneInPart known (Compile given) old new before after =
    OfSources known.bytes_of (sources_of given)
    (λ files. ArePrintedInPart given files old new before after)
IsDoneInPart known (Migrate given) old new before after = OfTable known.bytes_of given.table.now
    (λ table. IsMigratedInPart given.out.now table old new before after)
IsDoneInPart known (Decode given) old new before after = OfTable known.bytes_of given.table.now
    (λ table. OfMessage known.bytes_of known.input given.message
    (λ bytes. PrintsFront (IsMessageText given table bytes) old new))
IsDoneInPart known (Encode given) old new before after = OfTable known.bytes_of given.table.now
    (λ table. OfText known.bytes_of known.input given.text
    (λ text. PrintsFront (IsEncoded table given.root.now text) old new))
IsDoneInPart known (Table given) old new before after = OfTable known.bytes_of given.file.now
    (λ table. PrintsFront (IsListing given.listing table) old new)
IsDoneInPart known (Dump given) old new before after = OfDumped known.bytes_of given
    (λ table input. IsDumpedInPartBy given table input old new)
IsDoneInPart known (Serve given) old new before after = OfServed known.bytes_of given
    (λ table text. IsBrokenOffFrom known.input table text old new)
IsDoneInPart known (Explain asked) old new before after = PrintsExplainedFront asked old new

-- the line by which it refuses sources, a table, a message, a text, a script or a frame; where it is
-- a script or a frame, what is printed before
abbrev pub IsRefused : Known → Arguments → (old_out new_out old new : Option (List ℕ)) → Type 0
IsRefused known (Compile given) old_out new_out old new =
    OfSources known.bytes_of (sources_of given)
    (λ files. AppendsOne (IsSourceRefusal given.snippet files) old new)
IsRefused known (Migrate given) old_out new_out old new = OfTable known.bytes_of given.table.now
    (λ table. AppendsOne (IsTableRefusal table) old new)
IsRefused known (Decode given) old_out new_out old new = OfTable known.bytes_of given.table.now
    (λ table. OfMessage known.bytes_of known.input given.message
    (λ bytes. AppendsOne (IsMessageRefusal given table bytes) old new))
IsRefused known (Encode given) old_out new_out old new = OfTable known.bytes_of given.table.now
    (λ table. OfText known.bytes_of known.input given.text
    (λ text. AppendsOne (IsEncodeRefusal table given.root.now text) old new))
IsRefused known (Table given) old_out new_out old new = OfTable known.bytes_of given.file.now
    (λ table. AppendsOne (IsTableRefusal table) old new)
IsRefused known (Dump given) old_out new_out old new = OfDumped known.bytes_of given
    (λ table input. AppendsOne (IsDumpRefusalBy given table input old_out new_out) old new)
IsRefused known (Serve given) old_out new_out old new = OfServed known.bytes_of given
    (λ table text. AppendsOne
    (IsServeRefusalFrom known.input table text old_out new_out) old new)
IsRefused known (Explain asked) old_out new_out old new = ⊥

-- the input of a service was not read: what is printed, and the line for it
abbrev pub IsUnread : Known → Arguments → (old_out new_out old new : Option (List ℕ)) → Type 0
IsUnread known (Serve given) old_out new_out old new =
    OfServed known.bytes_of given
    (λ table text. IsServedFrom known.input table text old_out new_out (Err Read))
    × Appends old new (fault_line Read)
IsUnread known _ old_out new_out old new = ⊥

-- the command prints nothing where it refuses what it is given
abbrev pub IsQuiet : Arguments → Type 0
IsQuiet (Dump given) = ⊥
IsQuiet (Serve given) = ⊥
IsQuiet _ = ⊤

-- the sources have a table, which is not written: the line for the file to write is printed, and
-- this is none that is known to be written
pub record LacksOut (bytes_of : List ℕ → Option (List ℕ)) (can_write : List ℕ → Bool)
    (given : CompileArguments) (old new : Option (List ℕ)) : Type 0 where
  pub compiled : OfSources bytes_of (sources_of given)
      (λ files. (table : List ℕ) × IsCompiled files table)
  pub unwritten : can_write given.out.now ≡ false
  pub named : NamesFile given.out.now old new

-- `compile` lacks a source, or the file to write
abbrev pub LacksSourceOrOut : (bytes_of : List ℕ → Option (List ℕ)) → (can_write : List ℕ → Bool)
    → CompileArguments → (old new : Option (List ℕ)) → Type 0
LacksSourceOrOut bytes_of can_write given old new =
    HasMissing bytes_of (sources_of given) old new ⊎ LacksOut bytes_of can_write given old new

-- a file that the command reads is none whose bytes are known, or the file that it writes is none
-- that is known to be written; the line for this file is printed on the errors
abbrev pub LacksGivenFile : Known → (can_write : List ℕ → Bool) → Arguments
    → (old new : Option (List ℕ)) → Type 0
LacksGivenFile known can_write (Compile given) old new =
    LacksSourceOrOut known.bytes_of can_write given old new
LacksGivenFile known can_write (Migrate given) old new =
    LacksTableOrOut known.bytes_of can_write given old new
LacksGivenFile known can_write (Decode given) old new = LacksTableOrMessage known given old new
LacksGivenFile known can_write (Encode given) old new = LacksTableOrText known given old new
LacksGivenFile known can_write (Table given) old new =
    IsMissing known.bytes_of given.file.now old new
LacksGivenFile known can_write (Dump given) old new = LacksDumped known.bytes_of given old new
LacksGivenFile known can_write (Serve given) old new = LacksServed known.bytes_of given old new
LacksGivenFile known can_write (Explain asked) old new = ⊥

-- the arguments name a root that their table does not have, and the line for it is printed
abbrev pub LacksGivenRoot : Known → Arguments → (old new : Option (List ℕ)) → Type 0
LacksGivenRoot known (Decode given) old new =
    LacksRootIn known given.table.now given.root.now old new
LacksGivenRoot known (Encode given) old new =
    LacksRootIn known given.table.now given.root.now old new
LacksGivenRoot known _ old new = ⊥

-- the arguments name a protocol that their table does not have, and the line for it is printed
abbrev pub LacksGivenProtocol : Known → Arguments → (old new : Option (List ℕ)) → Type 0
LacksGivenProtocol known (Dump given) old new = LacksProtocolIn known.bytes_of given old new
LacksGivenProtocol known _ old new = ⊥

-- what the arguments name in place of a message holds none, and the line that says so is printed
abbrev pub LacksGivenText : Known → Arguments → (old new : Option (List ℕ)) → Type 0
LacksGivenText known (Decode given) old new =
    HasNoBytes known.bytes_of known.input given.message old new
LacksGivenText known _ old new = ⊥

-- the arguments ask for faults that are not in some guide, and the line for it is printed
abbrev pub LacksGivenFault : Arguments → (old new : Option (List ℕ)) → Type 0
LacksGivenFault (Explain asked) old new = LacksFault asked old new
LacksGivenFault _ old new = ⊥

-- the words give arguments of which this holds
abbrev pub Gives : List (List ℕ) → (Arguments → Type 0) → Type 0
Gives words Holds = (given : Arguments) × IsGiven words given × Holds given

-- the words give no arguments, for a reason that has this outcome, and of which this holds
abbrev pub GivesNone : List (List ℕ) → Outcome → (Unread → Type 0) → Type 0
GivesNone words ends Holds = (unread : Unread) × IsUngiven words unread × (outcome_of unread ≡ ends)
    × Holds unread

-- what can happen to `compile` with its arguments read, and its files to be read and written
abbrev pub CanEndCompileRun : Outcome → Type 0
CanEndCompileRun Asked = ⊥
CanEndCompileRun WrongLine = ⊥
CanEndCompileRun NoRoot = ⊥
CanEndCompileRun NoFault = ⊥
CanEndCompileRun WrongText = ⊥
CanEndCompileRun NoProtocol = ⊥
CanEndCompileRun outcome.Unread = ⊥
CanEndCompileRun _ = ⊤

-- nothing is printed on the output where this happens
abbrev pub LeavesOutput : Outcome → Type 0
LeavesOutput Done = ⊥
LeavesOutput Asked = ⊥
LeavesOutput Refused = ⊥
LeavesOutput outcome.Unread = ⊥
LeavesOutput Unwritten = ⊥
LeavesOutput _ = ⊤

-- what can happen to a command whose arguments are read
abbrev pub CanEndArguments : Outcome → Type 0
CanEndArguments Asked = ⊥
CanEndArguments WrongLine = ⊥
CanEndArguments _ = ⊤
