-- What the words of a command line give, and why they give no arguments (docs/program.md,
-- "Statuses").
use Rattle.std.specs.Prelude.{◌≡◌, ◌≢◌, ◌⊎◌, ⊤, ℕ, ◌+◌, List, [], ◌∷◌, codes, Some, None}
use Rattle.std.specs.Prelude.{Bool, true, false, Option, unwrap_or, map, slice_get, string_bytes}
use Rattle.std.specs.List.{AllZip, list_any}
use Rattle.std.specs.Option.{option_map_or}
use Rattle.std.specs.Ordering.{is_eq}
use Rattle.std.specs.Path.{path_cmp, path_join, cur_dir}
use Rattle.std.specs.Str.{bytes_eq}
use Rattle.clap.specs.Words.{Row, Text, takes, first_of}
use Rattle.clap.specs.Walk.{all_of}
use Rattle.clap.specs.declared.error.kind.ErrorKind.{ErrorKind}
use Rattle.clap.specs.declared.error.kind.ErrorKind.TheVariants.{DisplayHelp, DisplayVersion}
use Rattle.clap.specs.declared.error.kind.ErrorKind.TheVariants.{OutOfMemory}
use Rattle.fidl_hints.specs.declared.explaining.Faults.{Faults}
use Rattle.fidl_hints.specs.declared.explaining.Faults.TheVariants as faults
use Rattle.fidl_command_line.specs.declared.unread.Unread.{Unread}
use Rattle.fidl_command_line.specs.declared.unread.Unread.TheVariants.{Asked, Wrong, Missing}
use Rattle.fidl_command_line.specs.declared.unread.Unread.TheVariants.{BadHex, BadRaw, BadFault}
use Rattle.fidl_command_line.specs.declared.unread.Unread.TheVariants.{TwoLists, BadHandle}
use Rattle.fidl_command_line.specs.declared.unread.Unread.TheVariants.{OutIsSource, OutIsTable}
use Rattle.fidl_command_line.specs.declared.unread.Unread.TheVariants.{Memory}
use Rattle.fidl_command_line.specs.declared.arguments.CompileArguments.{CompileArguments}
use Rattle.fidl_command_line.specs.declared.arguments.MigrateArguments.{MigrateArguments}
use Rattle.fidl_command_line.specs.declared.arguments.DecodeArguments.{DecodeArguments}
use Rattle.fidl_command_line.specs.declared.arguments.EncodeArguments.{EncodeArguments}
use Rattle.fidl_command_line.specs.declared.arguments.TableArguments.{TableArguments}
use Rattle.fidl_command_line.specs.declared.streams.DumpArguments.{DumpArguments}
use Rattle.fidl_command_line.specs.declared.streams.ServeArguments.{ServeArguments}
use Rattle.fidl_command_line.specs.declared.arguments.Listing.{Listing}
use Rattle.fidl_command_line.specs.declared.arguments.Listing.TheVariants.{Records, Roots}
use Rattle.fidl_command_line.specs.declared.arguments.Listing.TheVariants.{Protocols}
use Rattle.fidl_command_line.specs.declared.arguments.Arguments.{Arguments}
use Rattle.fidl_command_line.specs.declared.arguments.Arguments.TheVariants.{Compile, Decode, Table}
use Rattle.fidl_command_line.specs.declared.arguments.Arguments.TheVariants.{Explain, Encode}
use Rattle.fidl_command_line.specs.declared.arguments.Arguments.TheVariants.{Dump, Serve, Migrate}
use Rattle.fidl_wire.specs.declared.handle.HandleInfo.{HandleInfo}
use Rattle.fidl_command_line.specs.declared.named.CommandName.{CommandName}
use Rattle.fidl_command_line.specs.declared.named.CommandName.TheVariants as named
use Rattle.fidl_command_line.specs.CommandLine.{program, Gives}
use Rattle.fidl_command_line.specs.Contents.{IsContent, IsMessage, IsNoMessage}
use Rattle.fidl_command_line.specs.Handles.{IsDecimal, IsHandleText}
use Rattle.fidl_command_line.specs.Complaints.{handle_line}

-- one of the texts is not that of a handle, and the line names it by its number
pub record NamesHandle (texts : List (List ℕ)) (line : List ℕ) : Type 0 where
  pub at : ℕ
  pub text : List ℕ
  pub given : slice_get texts at ≡ Some text
  pub no_handle : (h : HandleInfo) → ¬ IsHandleText text h
  pub line_is : line ≡ handle_line (at + 1)

-- the refusal of the handle of this number
abbrev pub IsHandleRefusal : (number : ℕ) → Unread → Type 0
IsHandleRefusal number (BadHandle line) = string_bytes line ≡ handle_line number
IsHandleRefusal number Memory = ⊤
IsHandleRefusal number _ = ⊥

-- why texts are not those of handles
abbrev pub AreNoHandles : (texts : List (List ℕ)) → Unread → Type 0
AreNoHandles texts (BadHandle line) = NamesHandle texts (string_bytes line)
AreNoHandles texts Memory = ⊤
AreNoHandles texts _ = ⊥

-- two names are those of one path: their steps from the working directory on are the same, but for
-- empty ones and `.`
abbrev pub is_one_path : (one other : List ℕ) → Bool
is_one_path one other = is_eq (path_cmp (path_join cur_dir one) (path_join cur_dir other))

-- the texts of the handles among the values of the arguments
abbrev pub handle_texts : List Row → List (List ℕ)
handle_texts rows = unwrap_or (all_of (codes "handle") rows) []

-- whether an option without a value was given
abbrev pub is_given : (id : List ℕ) (rows : List Row) → Bool
is_given id rows = option_map_or (λ value. bytes_eq value (codes "true")) (first_of id rows) false

-- the values of the arguments are these arguments of `decode`
pub record IsDecode (rows : List Row) (given : DecodeArguments) : Type 0 where
  pub table : first_of (codes "TABLE") rows ≡ Some given.table.now
  pub root : first_of (codes "ROOT") rows ≡ Some given.root.now
  pub hex : List ℕ
  pub hex_given : first_of (codes "HEX") rows ≡ Some hex
  pub message : IsMessage hex (is_given (codes "raw") rows) given.message
  pub handles : AllZip IsHandleText (handle_texts rows) given.handles.items

-- the argument HEX of `decode` gives no message
abbrev pub HasNoMessage : List Row → Unread → Type 0
HasNoMessage rows unread = (hex : List ℕ) × (first_of (codes "HEX") rows ≡ Some hex)
    × IsNoMessage hex (is_given (codes "raw") rows) unread

-- why the values of the arguments are no arguments of `decode`
abbrev pub IsNoDecode : List Row → Unread → Type 0
IsNoDecode rows Missing = (first_of (codes "TABLE") rows ≡ None)
    ⊎ (first_of (codes "ROOT") rows ≡ None) ⊎ (first_of (codes "HEX") rows ≡ None)
IsNoDecode rows BadHex = HasNoMessage rows BadHex
IsNoDecode rows BadRaw = HasNoMessage rows BadRaw
IsNoDecode rows (BadHandle line) = AreNoHandles (handle_texts rows) (BadHandle line)
IsNoDecode rows Memory = ⊤
IsNoDecode rows _ = ⊥

-- the values of the arguments are these arguments of `encode`
pub record IsEncode (rows : List Row) (given : EncodeArguments) : Type 0 where
  pub table : first_of (codes "TABLE") rows ≡ Some given.table.now
  pub root : first_of (codes "ROOT") rows ≡ Some given.root.now
  pub text : List ℕ
  pub text_given : first_of (codes "TEXT") rows ≡ Some text
  pub content : IsContent text given.text

-- why the values of the arguments are no arguments of `encode`
abbrev pub IsNoEncode : List Row → Unread → Type 0
IsNoEncode rows Missing = (first_of (codes "TABLE") rows ≡ None)
    ⊎ (first_of (codes "ROOT") rows ≡ None) ⊎ (first_of (codes "TEXT") rows ≡ None)
IsNoEncode rows Memory = ⊤
IsNoEncode rows _ = ⊥

-- the values of the arguments are these arguments of `compile`: the file to write has the path of
-- none of the sources
pub record IsCompile (rows : List Row) (given : CompileArguments) : Type 0 where
  pub out : first_of (codes "out") rows ≡ Some given.out.now
  pub snippet : given.snippet ≡ is_given (codes "snippet") rows
  pub sources : all_of (codes "FILE") rows ≡ Some (map (λ name. name.now) given.sources.items)
  pub apart : list_any (is_one_path given.out.now) (map (λ name. name.now) given.sources.items)
      ≡ false

-- the file to write has the path of one of the sources
pub record WritesSource (rows : List Row) : Type 0 where
  pub file : List ℕ
  pub sources : List (List ℕ)
  pub out : first_of (codes "out") rows ≡ Some file
  pub given : all_of (codes "FILE") rows ≡ Some sources
  pub among : list_any (is_one_path file) sources ≡ true

-- why the values of the arguments are no arguments of `compile`
abbrev pub IsNoCompile : List Row → Unread → Type 0
IsNoCompile rows Missing =
    (first_of (codes "out") rows ≡ None) ⊎ (all_of (codes "FILE") rows ≡ None)
IsNoCompile rows OutIsSource = WritesSource rows
IsNoCompile rows Memory = ⊤
IsNoCompile rows _ = ⊥

-- the values of the arguments are these arguments of `migrate`: the file to write and the table's
-- have two paths
pub record IsMigrate (rows : List Row) (given : MigrateArguments) : Type 0 where
  pub out : first_of (codes "out") rows ≡ Some given.out.now
  pub table : first_of (codes "TABLE") rows ≡ Some given.table.now
  pub apart : is_one_path given.out.now given.table.now ≡ false

-- the file to write has the path of the table's
pub record WritesTable (rows : List Row) : Type 0 where
  pub file : List ℕ
  pub table : List ℕ
  pub out : first_of (codes "out") rows ≡ Some file
  pub given : first_of (codes "TABLE") rows ≡ Some table
  pub same : is_one_path file table ≡ true

-- why the values of the arguments are no arguments of `migrate`
abbrev pub IsNoMigrate : List Row → Unread → Type 0
IsNoMigrate rows Missing =
    (first_of (codes "out") rows ≡ None) ⊎ (first_of (codes "TABLE") rows ≡ None)
IsNoMigrate rows OutIsTable = WritesTable rows
IsNoMigrate rows Memory = ⊤
IsNoMigrate rows _ = ⊥

-- what is printed of a table, by whether `--roots` and `--protocols` were given; not both
abbrev pub listing_of : (roots protocols : Bool) → Option Listing
listing_of false false = Some Records
listing_of true false = Some Roots
listing_of false true = Some Protocols
listing_of true true = None

-- what the values of the arguments say is printed of a table
abbrev pub listing_given : List Row → Option Listing
listing_given rows = listing_of (is_given (codes "roots") rows) (is_given (codes "protocols") rows)

-- the values of the arguments are these arguments of `table`
pub record IsTable (rows : List Row) (given : TableArguments) : Type 0 where
  pub file : first_of (codes "TABLE") rows ≡ Some given.file.now
  pub listing : listing_given rows ≡ Some given.listing

-- why the values of the arguments are no arguments of `table`
abbrev pub IsNoTable : List Row → Unread → Type 0
IsNoTable rows Missing = first_of (codes "TABLE") rows ≡ None
IsNoTable rows TwoLists = listing_given rows ≡ None
IsNoTable rows Memory = ⊤
IsNoTable rows _ = ⊥

-- the values of the arguments are these arguments of `dump`
pub record IsDump (rows : List Row) (given : DumpArguments) : Type 0 where
  pub table : first_of (codes "TABLE") rows ≡ Some given.table.now
  pub protocol : first_of (codes "PROTOCOL") rows ≡ Some given.protocol.now
  pub file : first_of (codes "FILE") rows ≡ Some given.file.now
  pub response : given.response ≡ is_given (codes "response") rows

-- why the values of the arguments are no arguments of `dump`
abbrev pub IsNoDump : List Row → Unread → Type 0
IsNoDump rows Missing = (first_of (codes "TABLE") rows ≡ None)
    ⊎ (first_of (codes "PROTOCOL") rows ≡ None) ⊎ (first_of (codes "FILE") rows ≡ None)
IsNoDump rows _ = ⊥

-- the values of the arguments are these arguments of `serve`
pub record IsServe (rows : List Row) (given : ServeArguments) : Type 0 where
  pub table : first_of (codes "TABLE") rows ≡ Some given.table.now
  pub script : first_of (codes "SCRIPT") rows ≡ Some given.script.now

-- why the values of the arguments are no arguments of `serve`
abbrev pub IsNoServe : List Row → Unread → Type 0
IsNoServe rows Missing =
    (first_of (codes "TABLE") rows ≡ None) ⊎ (first_of (codes "SCRIPT") rows ≡ None)
IsNoServe rows _ = ⊥

-- one word is a fault's name, and two are a stage and a number
abbrev pub IsAskedBy : (words : List (List ℕ)) → Faults → Type 0
IsAskedBy words (faults.Named name) = words ≡ name.now ∷ []
IsAskedBy words (faults.Numbered stage number) =
    (text : List ℕ) × (words ≡ stage.now ∷ text ∷ []) × IsDecimal text number

-- the words are neither
abbrev pub NamesNoFault : (words : List (List ℕ)) → Type 0
NamesNoFault words = (asked : Faults) → ¬ IsAskedBy words asked

-- the values of the arguments ask for these faults
abbrev pub IsExplain : List Row → Faults → Type 0
IsExplain rows asked = (words : List (List ℕ)) × (all_of (codes "FAULT") rows ≡ Some words)
    × IsAskedBy words asked

-- why the values of the arguments ask for no faults
abbrev pub IsNoExplain : List Row → Unread → Type 0
IsNoExplain rows Missing = all_of (codes "FAULT") rows ≡ None
IsNoExplain rows BadFault = (words : List (List ℕ))
    × (all_of (codes "FAULT") rows ≡ Some words) × NamesNoFault words
IsNoExplain rows Memory = ⊤
IsNoExplain rows _ = ⊥

-- the values of the arguments of a command are these
abbrev pub IsRead : CommandName → List Row → Arguments → Type 0
IsRead named.Compile rows (Compile given) = IsCompile rows given
IsRead named.Migrate rows (Migrate given) = IsMigrate rows given
IsRead named.Decode rows (Decode given) = IsDecode rows given
IsRead named.Encode rows (Encode given) = IsEncode rows given
IsRead named.Table rows (Table given) = IsTable rows given
IsRead named.Dump rows (Dump given) = IsDump rows given
IsRead named.Serve rows (Serve given) = IsServe rows given
IsRead named.Explain rows (Explain asked) = IsExplain rows asked
IsRead _ rows _ = ⊥

-- why the values of the arguments of a command are none
abbrev pub IsUnread : CommandName → List Row → Unread → Type 0
IsUnread named.Compile = IsNoCompile
IsUnread named.Migrate = IsNoMigrate
IsUnread named.Decode = IsNoDecode
IsUnread named.Encode = IsNoEncode
IsUnread named.Table = IsNoTable
IsUnread named.Dump = IsNoDump
IsUnread named.Serve = IsNoServe
IsUnread named.Explain = IsNoExplain

-- the words name this command, and the values of its arguments are as they have to be
abbrev pub Enters : List Text → CommandName → (Holds : List Row → Type 0) → Type 0
Enters words command Holds = (rows : List Row) × Gives words command rows × Holds rows

-- the words give these arguments of a command
abbrev pub IsGiven : List Text → Arguments → Type 0
IsGiven words (Compile given) = Enters words named.Compile (λ rows. IsCompile rows given)
IsGiven words (Migrate given) = Enters words named.Migrate (λ rows. IsMigrate rows given)
IsGiven words (Decode given) = Enters words named.Decode (λ rows. IsDecode rows given)
IsGiven words (Encode given) = Enters words named.Encode (λ rows. IsEncode rows given)
IsGiven words (Table given) = Enters words named.Table (λ rows. IsTable rows given)
IsGiven words (Dump given) = Enters words named.Dump (λ rows. IsDump rows given)
IsGiven words (Serve given) = Enters words named.Serve (λ rows. IsServe rows given)
IsGiven words (Explain asked) = Enters words named.Explain (λ rows. IsExplain rows asked)

-- the words name a command whose arguments have no such values
abbrev pub HasBadValues : List Text → Unread → Type 0
HasBadValues words unread =
    (command : CommandName) × Enters words command (λ rows. IsUnread command rows unread)

-- the words name no command
abbrev pub NamesNone : List Text → Type 0
NamesNone words = (command : CommandName) (rows : List Row) → ¬ Gives words command rows

-- why the words give no arguments: they are no command line, or ask for help; or the arguments have
-- no such values
abbrev pub IsUngiven : List Text → Unread → Type 0
IsUngiven words (Asked text) = takes program words ≡ false
IsUngiven words (Wrong line) = takes program words ≡ false
IsUngiven words Missing = NamesNone words ⊎ HasBadValues words Missing
IsUngiven words Memory = ⊤
IsUngiven words unread = HasBadValues words unread

-- what is told where clap gives no matches, by the kind of its error; memory can run out while the
-- text is made
abbrev pub IsToldByKind : ErrorKind → Unread → Type 0
IsToldByKind kind (Asked text) = (kind ≡ DisplayHelp) ⊎ (kind ≡ DisplayVersion)
IsToldByKind kind (Wrong line) = (kind ≢ DisplayHelp) × (kind ≢ DisplayVersion)
    × (kind ≢ OutOfMemory)
IsToldByKind kind Memory = ⊤
IsToldByKind kind _ = ⊥
