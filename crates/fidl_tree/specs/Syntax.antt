-- A source file as plain data: what its meaning depends on (docs/language.md, "Syntax"). Names,
-- numbers and strings are spans, whose texts are those of the file's source; the other spans are
-- where faults may point.
use Rattle.std.specs.Prelude.{ℕ, Bool, List, [], ◌∷◌, Option}
use Rattle.fidl_span.specs.declared.words.Span.{Span}

-- the components of a path, one or more
abbrev pub Path : Type 0
Path = List Span

-- Values.

mutual
  -- operands with `|` between them, one or more
  pub data Value : Type 0 where
    bitwise_or : (first : Operand) → Operands → Value

  -- the operands after the first, in order
  pub data Operands : Type 0 where
    no_operands : Operands
    next_operand : Operand → Operands → Operands

  pub data Operand : Type 0 where
    -- a number, with the minus before it where there is one
    number_operand : (minus : Option Span) (digits : Span) → Operand
    string_operand : Span → Operand
    bool_operand : Bool → Span → Operand
    path_operand : Path → Operand
    -- a value in parentheses
    group_operand : (left : Span) → Value → (right : Span) → Operand

-- an argument of an attribute: its name where one is written, and its value
pub record AttributeArgument : Type 0 where
  pub name : Option Span
  pub value : Value

pub record Attribute : Type 0 where
  pub name : Span
  pub arguments : List AttributeArgument

-- a member of bits or an enum
pub record ValueMember : Type 0 where
  pub attributes : List Attribute
  pub name : Span
  pub value : Value

-- Types.

pub data ValuesKind : Type 0 where
  bits_kind : ValuesKind
  enum_kind : ValuesKind

mutual
  -- a type where it is used, with its constraints in order: by its name, or as a layout
  pub data TypeUse : Type 0 where
    named_type : Path → Arguments → (constraints : List Value) → TypeUse
    layout_type : List Attribute → Layout → (constraints : List Value) → TypeUse

  -- the arguments of a named type, in order
  pub data Arguments : Type 0 where
    no_arguments : Arguments
    next_argument : Argument → Arguments → Arguments

  pub data Argument : Type 0 where
    number_argument : Span → Argument
    type_argument : TypeUse → Argument

  -- a layout, with the place of its keyword
  pub data Layout : Type 0 where
    -- bits or an enum
    values_layout : ValuesKind → (strict : Bool) → (keyword : Span) → Underlying → List ValueMember
        → Layout
    struct_layout : (resource : Bool) → (keyword : Span) → Members → Layout
    table_layout : (resource : Bool) → (keyword : Span) → Members → Layout
    union_layout : (strict resource : Bool) → (keyword : Span) → Members → Layout

  -- the underlying type of bits or an enum, where one is written
  pub data Underlying : Type 0 where
    no_underlying : Underlying
    underlying_type : TypeUse → Underlying

  -- the members of a layout or a service, or the properties of a resource definition, in order
  pub data Members : Type 0 where
    no_members : Members
    next_member : Member → Members → Members

  pub data Member : Type 0 where
    -- one of a struct, a service or properties
    named_member : List Attribute → (name : Span) → TypeUse → Member
    -- one of a table or a union
    ordinal_member : List Attribute → (ordinal name : Span) → TypeUse → Member
    reserved_member : List Attribute → (ordinal : Span) → Member

-- Protocols.

-- a response: its payload, and the type that `error` gives
pub record Response : Type 0 where
  pub payload : Option TypeUse
  pub error : Option TypeUse

-- what a protocol has; a method without a response is one-way
pub data ProtocolMember : Type 0 where
  compose_member : List Attribute → Path → ProtocolMember
  method_member :
      List Attribute → (strict : Bool) → (name : Span) → (request : Option TypeUse)
      → Option Response → ProtocolMember
  event_member : List Attribute → (strict : Bool) → (name : Span) → (payload : Option TypeUse)
      → ProtocolMember

pub data Openness : Type 0 where
  open_protocol : Openness
  ajar_protocol : Openness
  closed_protocol : Openness

-- Declarations and files.

-- what is declared
pub data Body : Type 0 where
  const_body : TypeUse → Value → Body
  alias_body : TypeUse → Body
  type_body : List Attribute → Layout → Body
  protocol_body : Openness → List ProtocolMember → Body
  service_body : Members → Body
  resource_body : (underlying : TypeUse) → (properties : Members) → Body

pub record Declaration : Type 0 where
  pub attributes : List Attribute
  pub name : Span
  pub body : Body

-- an import, with the other name where one is given
pub record Import : Type 0 where
  pub attributes : List Attribute
  pub path : Path
  pub alias : Option Span

pub record File : Type 0 where
  pub source : List ℕ
  pub attributes : List Attribute
  pub library : Path
  pub imports : List Import
  pub declarations : List Declaration

-- The lists of the mutual types, of plain lists.

abbrev pub operands_of : List Operand → Operands
operands_of [] = no_operands
operands_of (t ∷ ts) = next_operand t (operands_of ts)

abbrev pub arguments_of : List Argument → Arguments
arguments_of [] = no_arguments
arguments_of (a ∷ rest) = next_argument a (arguments_of rest)

abbrev pub members_of : List Member → Members
members_of [] = no_members
members_of (m ∷ ms) = next_member m (members_of ms)
