-- What the commands over tables and messages answer to their arguments and files (docs/program.md).
use Rattle.std.specs.Prelude.{◌≡◌, ◌≢◌, ◌⊎◌, ⊤, ℕ, List, [], Option, IfSome}
use Rattle.std.specs.Io.KnownBytes.{Appends}
use Rattle.fidl_text.specs.Outputs.{AppendsFront}
use Rattle.fidl_hints.specs.Explanations.{answer}
use Rattle.fidl_hints.specs.declared.explaining.Explanation.{Explanation}
use Rattle.fidl_hints.specs.declared.explaining.Faults.{Faults}
use Rattle.fidl_commands.specs.Contents.{LacksContent, LacksText}
use Rattle.fidl_commands.specs.Decoding.{IsText, IsRefusal, LacksRoot, TellsNoRoot}
use Rattle.fidl_commands.specs.Explaining.{no_fault_line}
use Rattle.fidl_commands.specs.Files.{IsMissing}
use Rattle.fidl_command_line.specs.declared.arguments.DecodeArguments.{DecodeArguments}
use Rattle.fidl_command_line.specs.declared.arguments.EncodeArguments.{EncodeArguments}
use Rattle.fidl_commands.specs.declared.outcome.Outcome.{Outcome}
use Rattle.fidl_commands.specs.declared.outcome.Outcome.TheVariants.{Asked, WrongLine, NoRoot}
use Rattle.fidl_commands.specs.declared.outcome.Outcome.TheVariants.{NoFault, WrongText, NoProtocol}
use Rattle.fidl_commands.specs.declared.outcome.Outcome.TheVariants.{Unread}

-- the line of the text that this message encodes, by this table, as a value of the root of the
-- arguments
abbrev pub IsMessageText : DecodeArguments → (table bytes : List ℕ) → List ℕ → Type 0
IsMessageText given table bytes = IsText table given.root.now bytes given.handles.items

-- a line that refuses this table, or this message by it
abbrev pub IsMessageRefusal : DecodeArguments → (table bytes : List ℕ) → List ℕ → Type 0
IsMessageRefusal given table bytes = IsRefusal table given.root.now bytes given.handles.items

-- what is known of the files, and of the standard input
pub record Known : Type 0 where
  pub bytes_of : List ℕ → Option (List ℕ)
  pub input : Option (List ℕ)

abbrev pub known_of : (bytes_of : List ℕ → Option (List ℕ)) → (input : Option (List ℕ)) → Known
known_of bytes_of input = record { bytes_of = bytes_of; input = input }

-- where the bytes of the file of this name are known, this holds of them
abbrev pub OfTable : (bytes_of : List ℕ → Option (List ℕ)) → (file : List ℕ) → (List ℕ → Type 0)
    → Type 0
OfTable bytes_of file Holds = IfSome (bytes_of file) Holds

-- a front of one of these lines is printed
abbrev pub PrintsFront : (List ℕ → Type 0) → (old new : Option (List ℕ)) → Type 0
PrintsFront IsLine old new = (line : List ℕ) × IsLine line × AppendsFront old new line

-- explanations, in some guide, of the faults that are asked for
pub data IsExplained (asked : Faults) : List ℕ → Type 0 where
  by_guide : (guide : List Explanation) → answer guide asked ≢ []
      → IsExplained asked (answer guide asked)

-- a front of these explanations in some guide is printed
abbrev pub PrintsExplainedFront : Faults → (old new : Option (List ℕ)) → Type 0
PrintsExplainedFront asked old new =
    (guide : List Explanation) × AppendsFront old new (answer guide asked)

-- `decode` lacks the table's file, or what it names in place of a message
abbrev pub LacksTableOrMessage : Known → DecodeArguments → (old new : Option (List ℕ)) → Type 0
LacksTableOrMessage known given old new = IsMissing known.bytes_of given.table.now old new
    ⊎ LacksContent known.bytes_of known.input given.message old new

-- `encode` lacks the table's file, or what it names in place of a text
abbrev pub LacksTableOrText : Known → EncodeArguments → (old new : Option (List ℕ)) → Type 0
LacksTableOrText known given old new = IsMissing known.bytes_of given.table.now old new
    ⊎ LacksText known.bytes_of known.input given.text old new

-- the table of this file was read, and has no root of this name; the line for it is printed
pub record LacksRootIn (known : Known) (file root : List ℕ) (old new : Option (List ℕ)) : Type 0 where
  pub table : List ℕ
  pub read : IfSome (known.bytes_of file) (λ bytes. table ≡ bytes)
  pub lacks : LacksRoot table root
  pub line : TellsNoRoot table file root old new

-- some guide has none of these faults, and the line for it is printed
abbrev pub LacksFault : Faults → (old new : Option (List ℕ)) → Type 0
LacksFault asked old new = (guide : List Explanation) × (answer guide asked ≡ [])
    × IfSome (no_fault_line asked) (Appends old new)

-- what can happen to `table` with its argument read, and its file to be read
abbrev pub CanEndTableRun : Outcome → Type 0
CanEndTableRun Asked = ⊥
CanEndTableRun WrongLine = ⊥
CanEndTableRun NoRoot = ⊥
CanEndTableRun NoFault = ⊥
CanEndTableRun WrongText = ⊥
CanEndTableRun NoProtocol = ⊥
CanEndTableRun Unread = ⊥
CanEndTableRun _ = ⊤

-- what can happen to `encode` with its arguments read, and its files to be read
abbrev pub CanEndEncodeRun : Outcome → Type 0
CanEndEncodeRun Asked = ⊥
CanEndEncodeRun WrongLine = ⊥
CanEndEncodeRun NoFault = ⊥
CanEndEncodeRun WrongText = ⊥
CanEndEncodeRun NoProtocol = ⊥
CanEndEncodeRun Unread = ⊥
CanEndEncodeRun _ = ⊤
