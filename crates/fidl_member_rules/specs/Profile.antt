-- Attributes that the profile leaves out (docs/language.md, "Rules of layouts").
use Rattle.std.specs.Prelude.{ℕ, ◌≡◌, List, [], ◌∷◌, Option, Some, None, codes}
use Rattle.std.specs.List.{Contains}
use Rattle.fidl_span.specs.declared.words.Span.{Span}
use Rattle.fidl_tree.specs.Leaf.{text_at}
use Rattle.fidl_tree.specs.Syntax.{Attribute, AttributeArgument, Value, bitwise_or, string_operand}
use Rattle.fidl_tree.specs.Syntax.{no_operands, Body, protocol_body, const_body, alias_body}
use Rattle.fidl_tree.specs.Syntax.{type_body, service_body, resource_body, Declaration}
use Rattle.fidl_consts.specs.Literals.{string_of}

-- an attribute gives versions
abbrev pub IsAvailable : (src : List ℕ) → Attribute → Type 0
IsAvailable src a = text_at src a.name ≡ codes "available"

-- the string literal that a value is just, if it is one
abbrev pub string_alone : Value → Option Span
string_alone (bitwise_or (string_operand s) no_operands) = Some s
string_alone _ = None

-- that of an argument without a name
abbrev pub unnamed_string : (name : Option Span) → Value → Option Span
unnamed_string None v = string_alone v
unnamed_string (Some name) v = None

-- that of arguments which are just one such
abbrev pub only_string : List AttributeArgument → Option Span
only_string (g ∷ []) = unnamed_string g.name g.value
only_string _ = None

-- the arguments are one string without a name, which is the transport by channels
pub record NamesChannel (src : List ℕ) (arguments : List AttributeArgument) : Type 0 where
  pub word : Span
  pub alone : only_string arguments ≡ Some word
  pub channel : string_of (text_at src word) ≡ codes "Channel"

-- an attribute gives a transport other than by channels
pub record IsOtherTransport (src : List ℕ) (a : Attribute) : Type 0 where
  pub called : text_at src a.name ≡ codes "transport"
  pub other : NamesChannel src a.arguments → ⊥

-- the attributes of a protocol; those of any other declaration give no transport
abbrev pub protocol_attributes : List Attribute → Body → List Attribute
protocol_attributes attributes (protocol_body openness members) = attributes
protocol_attributes attributes (const_body t value) = []
protocol_attributes attributes (alias_body t) = []
protocol_attributes attributes (type_body own l) = []
protocol_attributes attributes (service_body ms) = []
protocol_attributes attributes (resource_body t properties) = []

-- those of a declaration by which a transport is judged
abbrev pub transport_attributes : Declaration → List Attribute
transport_attributes d = protocol_attributes d.attributes d.body

-- one of the attributes is such, and has its name at this span
pub record StandsAt (Is : Attribute → Type 0) (attributes : List Attribute) (span : Span) : Type 0
  where
    pub attribute : Attribute
    pub among : Contains attributes attribute
    pub such : Is attribute
    pub place : span ≡ attribute.name
