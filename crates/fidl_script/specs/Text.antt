-- Which texts are scripts, and what is held of them (docs/service.md, "Scripts").
use Rattle.std.specs.Prelude.{◌≡◌, ℕ, ◌==◌, List, ◌∷◌, map, IsUtf8, Option, Some, None}
use Rattle.std.specs.List.{AllByRecursion, AllZip, filter}
use Rattle.fidl_wire.specs.Value.{Value}
use Rattle.fidl_wire.specs.Term as ty
use Rattle.fidl_wire.specs.Message.{Encodes}
use Rattle.fidl_table_format.specs.Section.{header_of}
use Rattle.fidl_table_format.specs.Terms.{declarations_of}
use Rattle.fidl_table_format.specs.Method.{IsFirstMethod}
use Rattle.fidl_verify.specs.Lookups.{response_of, TableProtocol}
use Rattle.fidl_verify.specs.declared.method.Payload.{Payload}
use Rattle.fidl_verify.specs.declared.method.Payload.TheVariants.{Empty, Entry}
use Rattle.fidl_spelling.specs.Spells.{SpellsWithin}
use Rattle.fidl_script.specs.Lines.{Line, said_lines}
use Rattle.fidl_script.specs.Phrases.{IsProtocolLine, IsReplyLine}
use Rattle.fidl_script.specs.Script.{Body, Script, Replies, empty_body, bodies_of, method_of}
use Rattle.fidl_script.specs.Script.{FitsBehindHeader, IsTwoWay, IsScriptFor}

-- the text is UTF-8, the first line that it says is a protocol line of this name, and these follow
pub record Begins (text name : List ℕ) (rest : List Line) : Type 0 where
  pub utf8 : IsUtf8 text
  pub first : Line
  pub lines : said_lines text ≡ first ∷ rest
  pub protocol_line : IsProtocolLine first.bytes name

-- a name means the two-way method at this place of the protocol: the first method of the name is
-- there
pub record Means (p : TableProtocol) (name : List ℕ) (place : ℕ) : Type 0 where
  pub first : IsFirstMethod p.table (header_of p.table) p.number name place
  pub two_way : IsTwoWay p place

-- a value of the entry's type has this message, which fits behind a header
pub record HasBody (table : List ℕ) (entry : ℕ) (value : Value) (body : Body) : Type 0 where
  pub encodes : Encodes (declarations_of table) (ty.named entry) value body.bytes body.handles
  pub short : FitsBehindHeader body

-- a text spells a value that has this body
pub record SpellsBody (table : List ℕ) (entry : ℕ) (text : List ℕ) (body : Body) : Type 0 where
  pub value : Value
  pub spells : SpellsWithin (declarations_of table) (ty.named entry) text value
  pub has : HasBody table entry value body

-- what stands behind the method of a line gives this body: a text where the response has a payload,
-- and none where it has none
abbrev pub GivesBody : (table : List ℕ) → Payload → (text : Option (List ℕ)) → Body → Type 0
GivesBody table Empty None body = body ≡ empty_body
GivesBody table (Entry e) (Some text) body = SpellsBody table e text body
GivesBody table _ _ body = ⊥

-- a reply: the ordinal of its method, and its body
pub record Reply : Type 0 where
  pub ordinal : ℕ
  pub body : Body

-- a line is a reply line of a two-way method, and gives this reply
pub record IsReply (p : TableProtocol) (line : Line) (r : Reply) : Type 0 where
  pub name : List ℕ
  pub text : Option (List ℕ)
  pub reply_line : IsReplyLine line.bytes name text
  pub place : ℕ
  pub means : Means p name place
  pub ordinal : r.ordinal ≡ (method_of p place).ordinal
  pub body : GivesBody p.table (response_of (method_of p place)) text r.body

-- the bodies of the replies of a method, in the order of their lines
abbrev pub replies_with : (ordinal : ℕ) → List Reply → List Body
replies_with ordinal replies =
    map (λ (r : Reply). r.body) (filter (λ (r : Reply). r.ordinal == ordinal) replies)

-- a text is a script for the protocol, and this is what is held of it: for each two-way method of
-- the protocol the bodies that its lines give, in their order, of which there is one at least
pub record IsScript (p : TableProtocol) (text : List ℕ) (s : Script) : Type 0 where
  pub rest : List Line
  pub begins : Begins text s.protocol rest
  pub replies : List Reply
  pub are : AllZip (IsReply p) rest replies
  pub held : AllByRecursion (λ (m : Replies). bodies_of m ≡ replies_with m.ordinal replies) s.methods
  pub of_table : IsScriptFor p s
