-- What the command `encode` answers (docs/program.md, "encode").
use Rattle.std.specs.Prelude.{◌≡◌, ◌≢◌, ⊤, ℕ, List, ◌++◌, codes, decimal, flat_map, Some}
use Rattle.hex.specs.Hex.{encode_lower}
use Rattle.fidl_wire.specs.declared.handle.HandleInfo.{HandleInfo}
use Rattle.fidl_wire.specs.Value.{Value}
use Rattle.fidl_wire.specs.Term as ty
use Rattle.fidl_wire.specs.Message.{Encodes}
use Rattle.fidl_spelling.specs.Spells.{SpellsWithin}
use Rattle.fidl_table_format.specs.Terms.{declarations_of}
use Rattle.fidl_table_format.specs.WellFormed.{WellFormed}
use Rattle.fidl_verify.specs.Faults.{Breaks}
use Rattle.fidl_verify.specs.declared.fault.TableFault.{TableFault}
use Rattle.fidl_reading.specs.Faults as text_faults
use Rattle.fidl_reading.specs.declared.fault.NotationFault.{NotationFault}
use Rattle.fidl_encode.specs.Faults as value_faults
use Rattle.fidl_encode.specs.Told.{IsTold}
use Rattle.fidl_encode.specs.declared.fault.EncodeFault.{EncodeFault}
use Rattle.fidl_encode.specs.declared.fault.EncodeFault.TheVariants.{Memory}
use Rattle.fidl_commands.specs.declared.encoding.TypedText.{TypedText}
use Rattle.fidl_commands.specs.declared.outcome.Outcome.{Outcome}
use Rattle.fidl_commands.specs.declared.outcome.Outcome.TheVariants.{Refused, Unwritten, NoMemory}
use Rattle.fidl_commands.specs.Decoding.{IsRootOf, refusal_line, placeless_line, table_line}

-- the line of a handle: its id, its object type and its rights
abbrev pub handle_line : HandleInfo → List ℕ
handle_line h = codes "handle " ++ decimal h.id ++ codes ":" ++ decimal h.object_type ++ codes ":"
    ++ decimal h.rights ++ codes "\n"

-- what is printed of a message: its bytes in hexadecimal digits, and a line for each handle
abbrev pub message_text : (bytes : List ℕ) (handles : List HandleInfo) → List ℕ
message_text bytes handles =
    encode_lower bytes ++ codes "\n" ++ flat_map handle_line handles

-- the line of a text's fault, with its place
abbrev pub text_line : NotationFault → (place : ℕ) → List ℕ
text_line f place =
    refusal_line (codes "notation") (text_faults.number_of f) (text_faults.name_of f) place

-- the line of a value's fault, which has no place
abbrev pub value_line : EncodeFault → List ℕ
value_line f =
    placeless_line (codes "encode") (value_faults.number_of f) (value_faults.name_of f)

-- the same of a fault that has a place, and of one that is not that memory ran out
pub data IsTextLine (fault : NotationFault) : List ℕ → Type 0 where
  at_place : (place : ℕ) → text_faults.place_of fault ≡ Some place
      → IsTextLine fault (text_line fault place)

pub data IsValueLine (fault : EncodeFault) : List ℕ → Type 0 where
  of_fault : fault ≢ Memory → IsValueLine fault (value_line fault)

-- the text of the message that encodes the value which a text spells, as one of this entry's type
pub data IsMessageOf (table : List ℕ) (entry : ℕ) (text : List ℕ) : List ℕ → Type 0 where
  message : (v : Value) (bytes : List ℕ) (handles : List HandleInfo)
      → SpellsWithin (declarations_of table) (ty.named entry) text v
      → Encodes (declarations_of table) (ty.named entry) v bytes handles
      → IsMessageOf table entry text (message_text bytes handles)

-- the lines that are true refusals of a text: it spells no value of the entry's type, or the value
-- that it spells breaks the rule that the line names
pub data IsTextRefusal (table : List ℕ) (entry : ℕ) (text : List ℕ) : List ℕ → Type 0 where
  of_text : (fault : NotationFault) (line : List ℕ) → IsTextLine fault line
      → ((v : Value) → ¬ SpellsWithin (declarations_of table) (ty.named entry) text v)
      → IsTextRefusal table entry text line
  of_value : (v : Value) (fault : EncodeFault) (line : List ℕ) → IsValueLine fault line
      → SpellsWithin (declarations_of table) (ty.named entry) text v
      → IsTold (declarations_of table) (ty.named entry) v fault
      → IsTextRefusal table entry text line

-- the same of the root of a table
pub data IsEncoded (table root text : List ℕ) : List ℕ → Type 0 where
  by_root : (entry : ℕ) (printed : List ℕ) → IsRootOf table root entry
      → IsMessageOf table entry text printed → IsEncoded table root text printed

-- the lines that are true refusals: of a table, which is told by a rule that it breaks, or of a
-- text by the type of a root
pub data IsEncodeRefusal (table root text : List ℕ) : List ℕ → Type 0 where
  by_table : (fault : TableFault) → ¬ WellFormed table → Breaks table fault
      → IsEncodeRefusal table root text (table_line fault)
  by_text : (entry : ℕ) (line : List ℕ) → IsRootOf table root entry
      → IsTextRefusal table entry text line → IsEncodeRefusal table root text line

-- the same of a text with the name of its root
abbrev pub IsEncodedOf : (table : List ℕ) → TypedText → List ℕ → Type 0
IsEncodedOf table t = IsEncoded table t.root.now t.text.now

abbrev pub IsEncodeRefusalOf : (table : List ℕ) → TypedText → List ℕ → Type 0
IsEncodeRefusalOf table t = IsEncodeRefusal table t.root.now t.text.now

-- what can happen where a text gives no message
abbrev pub CanEndEncoding : Outcome → Type 0
CanEndEncoding Refused = ⊤
CanEndEncoding Unwritten = ⊤
CanEndEncoding NoMemory = ⊤
CanEndEncoding _ = ⊥
