-- What the command `decode` answers (docs/program.md, "decode").
use Rattle.std.specs.Prelude.{⊤, ℕ, List, ◌++◌, codes, decimal, Option}
use Rattle.fidl_commands.specs.Naming.{TellsUnnamed}
use Rattle.fidl_commands.specs.declared.naming.Named.TheVariants.{Roots}
use Rattle.fidl_wire.specs.declared.handle.HandleInfo.{HandleInfo}
use Rattle.fidl_wire.specs.Value.{Value}
use Rattle.fidl_wire.specs.Term as ty
use Rattle.fidl_wire.specs.Text.{Text}
use Rattle.fidl_wire.specs.Message.{Encodes, IsEncoding}
use Rattle.fidl_table_format.specs.Section.{header_of}
use Rattle.fidl_table_format.specs.Terms.{declarations_of}
use Rattle.fidl_table_format.specs.Root.{IsRootEntry, HasNoRoot}
use Rattle.fidl_table_format.specs.WellFormed.{WellFormed}
use Rattle.fidl_verify.specs.Faults.{Breaks}
use Rattle.fidl_verify.specs.Faults as table_faults
use Rattle.fidl_verify.specs.declared.fault.TableFault.{TableFault}
use Rattle.fidl_decode_model.specs.Faults.{IsTold}
use Rattle.fidl_decode_model.specs.Faults as message_faults
use Rattle.fidl_decode_model.specs.declared.fault.DecodeFault.{DecodeFault}
use Rattle.fidl_command_line.specs.Complaints.{no_memory}
use Rattle.fidl_commands.specs.declared.decoding.TypedMessage.{TypedMessage}
use Rattle.fidl_commands.specs.declared.outcome.Outcome.{Outcome}
use Rattle.fidl_commands.specs.declared.outcome.Outcome.TheVariants.{Done, Asked, Refused}
use Rattle.fidl_commands.specs.declared.outcome.Outcome.TheVariants.{WrongLine, NoFile, Unwritten}
use Rattle.fidl_commands.specs.declared.outcome.Outcome.TheVariants.{NoMemory, NoFault, WrongText}
use Rattle.fidl_commands.specs.declared.outcome.Outcome.TheVariants.{NoProtocol, Unread}

-- the table is accepted, and its first root of this name has this entry
pub record IsRootOf (table root : List ℕ) (entry : ℕ) : Type 0 where
  pub well_formed : WellFormed table
  pub root_entry : IsRootEntry table (header_of table) root entry

-- the table is accepted, and has a root of this name
abbrev pub HasRoot : (table root : List ℕ) → Type 0
HasRoot table root = (entry : ℕ) × IsRootOf table root entry

-- the table is accepted, and has no root of this name
pub record LacksRoot (table root : List ℕ) : Type 0 where
  pub well_formed : WellFormed table
  pub none : HasNoRoot table (header_of table) root

-- the line of a refusal
abbrev pub refusal_line : (stage : List ℕ) (number : ℕ) (name : List ℕ) (place : ℕ) → List ℕ
refusal_line stage number name place = stage ++ codes " " ++ decimal number ++ codes " " ++ name
    ++ codes " at " ++ decimal place ++ codes "\n"

-- the line of a refusal that has no place
abbrev pub placeless_line : (stage : List ℕ) (number : ℕ) (name : List ℕ) → List ℕ
placeless_line stage number name = stage ++ codes " " ++ decimal number ++ codes " " ++ name
    ++ codes "\n"

-- the line of a table's fault, and of a message's
abbrev pub table_line : TableFault → List ℕ
table_line f =
    refusal_line (codes "table") (table_faults.number_of f) (table_faults.name_of f)
    (table_faults.place_of f)

abbrev pub message_line : DecodeFault → List ℕ
message_line f =
    refusal_line (codes "decode") (message_faults.number_of f) (message_faults.name_of f)
    (message_faults.place_of f)

-- the line for a root that this table does not have is printed
abbrev pub TellsNoRoot : (table file root : List ℕ) (old new : Option (List ℕ)) → Type 0
TellsNoRoot = TellsUnnamed Roots

-- the line where memory ran out
abbrev pub no_memory_line : List ℕ
no_memory_line = no_memory ++ codes "\n"

-- what can happen to `decode`
abbrev pub CanEndDecode : Outcome → Type 0
CanEndDecode Asked = ⊥
CanEndDecode WrongLine = ⊥
CanEndDecode WrongText = ⊥
CanEndDecode NoFault = ⊥
CanEndDecode NoFile = ⊥
CanEndDecode NoProtocol = ⊥
CanEndDecode Unread = ⊥
CanEndDecode _ = ⊤

-- what can happen to it with its root found
abbrev pub CanEndDecodeAs : Outcome → Type 0
CanEndDecodeAs Done = ⊤
CanEndDecodeAs Refused = ⊤
CanEndDecodeAs Unwritten = ⊤
CanEndDecodeAs NoMemory = ⊤
CanEndDecodeAs _ = ⊥

-- what can happen to `decode` with its arguments read, and its file to be read
abbrev pub CanEndRun : Outcome → Type 0
CanEndRun Asked = ⊥
CanEndRun WrongLine = ⊥
CanEndRun NoFault = ⊥
CanEndRun NoProtocol = ⊥
CanEndRun Unread = ⊥
CanEndRun _ = ⊤

-- the line of the text that bytes and handles encode, as a value of the root's type
pub data IsText (table root bytes : List ℕ) (handles : List HandleInfo) : List ℕ → Type 0 where
  value : (entry : ℕ) (v : Value) → IsRootOf table root entry
      → Encodes (declarations_of table) (ty.named entry) v bytes handles
      → IsText table root bytes handles
      (Text (declarations_of table) (ty.named entry) v ++ codes "\n")

-- the lines that are true refusals: of a table, which is told by a rule that it breaks, or of a
-- message that encodes no value of the root's type
pub data IsRefusal (table root bytes : List ℕ) (handles : List HandleInfo) : List ℕ → Type 0 where
  of_table : (fault : TableFault) → ¬ WellFormed table → Breaks table fault
      → IsRefusal table root bytes handles (table_line fault)
  of_message : (entry : ℕ) (fault : DecodeFault) → IsRootOf table root entry
      → ¬ IsEncoding (declarations_of table) (ty.named entry) bytes handles
      → IsTold (declarations_of table) (ty.named entry) bytes handles fault
      → IsRefusal table root bytes handles (message_line fault)

-- the same of a message with the name of its root
abbrev pub IsTextOf : (table : List ℕ) → TypedMessage → List ℕ → Type 0
IsTextOf table m = IsText table m.root.now m.bytes.now m.handles.now

abbrev pub IsRefusalOf : (table : List ℕ) → TypedMessage → List ℕ → Type 0
IsRefusalOf table m = IsRefusal table m.root.now m.bytes.now m.handles.now
