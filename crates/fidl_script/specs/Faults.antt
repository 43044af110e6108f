-- The numbers, names and lines of faults, and what each says of a text (docs/service.md, "Scripts").
use Rattle.std.specs.Prelude.{◌≡◌, ℕ, List, [], ◌∷◌, ◌++◌, codes, IsUtf8, Option, Some, None}
use Rattle.std.specs.Prelude.{◌⊎◌}
use Rattle.std.specs.List.{AllZip}
use Rattle.fidl_table_format.specs.Section.{header_of}
use Rattle.fidl_table_format.specs.Protocol.{IsFirstProtocol, HasNoProtocol}
use Rattle.fidl_verify.specs.Lookups.{response_of, TableProtocol}
use Rattle.fidl_script.specs.Lines.{Line, said_lines}
use Rattle.fidl_script.specs.Phrases.{IsProtocolLine, IsReplyLine}
use Rattle.fidl_script.specs.Script.{Body, method_of, IsTwoWay}
use Rattle.fidl_script.specs.Text.{Begins, Means, GivesBody, Reply, IsReply, replies_with}
use Rattle.fidl_script.specs.declared.fault.ScriptFault.{ScriptFault}
use Rattle.fidl_script.specs.declared.fault.ScriptFault.TheVariants.{Syntax, UnknownProtocol}
use Rattle.fidl_script.specs.declared.fault.ScriptFault.TheVariants.{UnknownMethod, Missing}
use Rattle.fidl_script.specs.declared.fault.ScriptFault.TheVariants.{BadValue, Memory}

-- the fault's number
abbrev pub number_of : ScriptFault → ℕ
number_of (Syntax line) = 1
number_of UnknownProtocol = 2
number_of (UnknownMethod line) = 3
number_of Missing = 4
number_of (BadValue line) = 5
number_of Memory = 6

-- the fault's name, as its variant is spelled
abbrev pub name_of : ScriptFault → List ℕ
name_of (Syntax line) = codes "Syntax"
name_of UnknownProtocol = codes "UnknownProtocol"
name_of (UnknownMethod line) = codes "UnknownMethod"
name_of Missing = codes "Missing"
name_of (BadValue line) = codes "BadValue"
name_of Memory = codes "Memory"

-- the number of the line that the fault reports
abbrev pub line_of : ScriptFault → Option ℕ
line_of (Syntax line) = Some line
line_of UnknownProtocol = None
line_of (UnknownMethod line) = Some line
line_of Missing = None
line_of (BadValue line) = Some line
line_of Memory = None

-- the first line that the text says has this number, and is no protocol line
pub record HasNoProtocolLine (text : List ℕ) (number : ℕ) : Type 0 where
  pub first : Line
  pub rest : List Line
  pub lines : said_lines text ≡ first ∷ rest
  pub number_is : number ≡ first.number
  pub none : (name : List ℕ) → ¬ (IsProtocolLine first.bytes name)

-- the text is no UTF-8 or says nothing, each told at line 1, or the first line that it says is no
-- protocol line
abbrev pub BeginsBadly : (text : List ℕ) → (number : ℕ) → Type 0
BeginsBadly text n = ((n ≡ 1) × ¬ (IsUtf8 text)) ⊎ ((n ≡ 1) × (said_lines text ≡ []))
    ⊎ HasNoProtocolLine text n

-- a line is a reply line of a name that means no two-way method
pub record NamesNoMethod (p : TableProtocol) (line : Line) : Type 0 where
  pub name : List ℕ
  pub text : Option (List ℕ)
  pub reply_line : IsReplyLine line.bytes name text
  pub none : (place : ℕ) → ¬ (Means p name place)

-- a line is a reply line of a two-way method, and gives no body
pub record GivesNoBody (p : TableProtocol) (line : Line) : Type 0 where
  pub name : List ℕ
  pub text : Option (List ℕ)
  pub reply_line : IsReplyLine line.bytes name text
  pub place : ℕ
  pub means : Means p name place
  pub none : (body : Body) → ¬ (GivesBody p.table (response_of (method_of p place)) text body)

-- what a fault says of a line that gives no reply
abbrev pub IsLineFault : TableProtocol → Line → ScriptFault → Type 0
IsLineFault p line (Syntax n) = (n ≡ line.number)
    × ((name : List ℕ) (text : Option (List ℕ)) → ¬ (IsReplyLine line.bytes name text))
IsLineFault p line UnknownProtocol = ⊥
IsLineFault p line (UnknownMethod n) = (n ≡ line.number) × NamesNoMethod p line
IsLineFault p line Missing = ⊥
IsLineFault p line (BadValue n) = (n ≡ line.number) × GivesNoBody p line
IsLineFault p line Memory = Unit {0}

-- after lines that give replies comes one that gives none, and the fault is true of it
pub record StopsAmong (p : TableProtocol) (lines : List Line) (fault : ScriptFault) : Type 0 where
  pub before : List Line
  pub line : Line
  pub after : List Line
  pub lines_are : lines ≡ before ++ line ∷ after
  pub replies : List Reply
  pub are : AllZip (IsReply p) before replies
  pub is : IsLineFault p line fault

-- all lines give replies, and a two-way method has none
pub record LacksReply (p : TableProtocol) (lines : List Line) : Type 0 where
  pub replies : List Reply
  pub are : AllZip (IsReply p) lines replies
  pub place : ℕ
  pub two_way : IsTwoWay p place
  pub none : replies_with (method_of p place).ordinal replies ≡ []

-- what a fault says of the lines behind the protocol line
abbrev pub IsLinesFault : TableProtocol → List Line → ScriptFault → Type 0
IsLinesFault p lines (Syntax n) = StopsAmong p lines (Syntax n)
IsLinesFault p lines UnknownProtocol = ⊥
IsLinesFault p lines (UnknownMethod n) = StopsAmong p lines (UnknownMethod n)
IsLinesFault p lines Missing = LacksReply p lines
IsLinesFault p lines (BadValue n) = StopsAmong p lines (BadValue n)
IsLinesFault p lines Memory = Unit {0}

-- the text begins with the name of a protocol of the table, and the fault is true of what follows
pub record IsToldOfLines (table text : List ℕ) (fault : ScriptFault) : Type 0 where
  pub protocol : TableProtocol
  pub of_table : protocol.table ≡ table
  pub name : List ℕ
  pub rest : List Line
  pub begins : Begins text name rest
  pub named : IsFirstProtocol table (header_of table) name protocol.number
  pub is : IsLinesFault protocol rest fault

-- the text begins with a name that no protocol of the table has
pub record NamesNoProtocol (table text : List ℕ) : Type 0 where
  pub name : List ℕ
  pub rest : List Line
  pub begins : Begins text name rest
  pub none : HasNoProtocol table (header_of table) name

-- what each fault says of a text: nothing where memory ran out
abbrev pub IsTold : (table text : List ℕ) → ScriptFault → Type 0
IsTold table text (Syntax n) = BeginsBadly text n ⊎ IsToldOfLines table text (Syntax n)
IsTold table text UnknownProtocol = NamesNoProtocol table text
IsTold table text (UnknownMethod n) = IsToldOfLines table text (UnknownMethod n)
IsTold table text Missing = IsToldOfLines table text Missing
IsTold table text (BadValue n) = IsToldOfLines table text (BadValue n)
IsTold table text Memory = Unit {0}
