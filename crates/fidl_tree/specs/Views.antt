-- The plain data that a tree of the code represents (docs/language.md, "Syntax"). Since types hold
-- one another, a step gives it for one level, with what the parts represent in their places; all
-- steps together give it for a whole type.
use Rattle.std.specs.Prelude.{ℕ, Bool, true, false, List, [], ◌∷◌, Option, Some, None, map}
use Rattle.std.specs.Prelude.{option_map, is_some}
use Rattle.fidl_span.specs.declared.words.Span.{Span}
use Rattle.fidl_tree.specs.Syntax as plain
use Rattle.fidl_tree.specs.declared.path.Path.{Path}
use Rattle.fidl_tree.specs.declared.path.PathPart.{PathPart}
use Rattle.fidl_tree.specs.declared.keyword.Strictness.{Strictness}
use Rattle.fidl_tree.specs.declared.keyword.Strictness.TheVariants.{Strict, Flexible}
use Rattle.fidl_tree.specs.declared.keyword.Openness.{Openness}
use Rattle.fidl_tree.specs.declared.keyword.Openness.TheVariants.{Open, Ajar, Closed}
use Rattle.fidl_tree.specs.declared.keyword.ValuesKeyword.{ValuesKeyword}
use Rattle.fidl_tree.specs.declared.keyword.ValuesKeyword.TheVariants.{Bits, Enum}
use Rattle.fidl_tree.specs.declared.keyword.UnionModifiers.{UnionModifiers}
use Rattle.fidl_tree.specs.declared.keyword.UnionModifiers.TheVariants.{StrictnessFirst}
use Rattle.fidl_tree.specs.declared.keyword.UnionModifiers.TheVariants.{ResourceFirst}
use Rattle.fidl_tree.specs.declared.value.Value.{Value}
use Rattle.fidl_tree.specs.declared.value.OrOperand.{OrOperand}
use Rattle.fidl_tree.specs.declared.value.Operand.{Operand}
use Rattle.fidl_tree.specs.declared.value.Operand.TheOpen.{Value-F, OrOperand-F, Operand-F}
use Rattle.fidl_tree.specs.declared.value.Operand.TheFolds.{fold-Value, fold-OrOperand}
use Rattle.fidl_tree.specs.declared.value.Operand.TheFolds.{fold-Operand}
use Rattle.fidl_tree.specs.declared.attribute.Attribute.{Attribute}
use Rattle.fidl_tree.specs.declared.attribute.Arguments.{Arguments}
use Rattle.fidl_tree.specs.declared.attribute.ArgumentList.{ArgumentList}
use Rattle.fidl_tree.specs.declared.attribute.NextArgument.{NextArgument}
use Rattle.fidl_tree.specs.declared.attribute.Argument.{Argument}
use Rattle.fidl_tree.specs.declared.attribute.ArgumentName.{ArgumentName}
use Rattle.fidl_tree.specs.declared.constraint.Constraints.{Constraints}
use Rattle.fidl_tree.specs.declared.constraint.Constraints.TheVariants.{Single, List as Several}
use Rattle.fidl_tree.specs.declared.constraint.NextConstraint.{NextConstraint}
use Rattle.fidl_tree.specs.declared.value_member.ValueMember.{ValueMember}
use Rattle.fidl_tree.specs.declared.type_constructor.TypeConstructor.{TypeConstructor}
use Rattle.fidl_tree.specs.declared.type_constructor.NamedType.{NamedType}
use Rattle.fidl_tree.specs.declared.type_constructor.TypeArguments.{TypeArguments}
use Rattle.fidl_tree.specs.declared.type_constructor.NextTypeArgument.{NextTypeArgument}
use Rattle.fidl_tree.specs.declared.type_constructor.TypeArgument.{TypeArgument}
use Rattle.fidl_tree.specs.declared.type_constructor.Layout.{Layout}
use Rattle.fidl_tree.specs.declared.type_constructor.LayoutBody.{LayoutBody}
use Rattle.fidl_tree.specs.declared.type_constructor.ValuesLayout.{ValuesLayout}
use Rattle.fidl_tree.specs.declared.type_constructor.Member.{Member}
use Rattle.fidl_tree.specs.declared.type_constructor.OrdinalMember.{OrdinalMember}
use Rattle.fidl_tree.specs.declared.type_constructor.LayoutBody.TheOpen.{TypeConstructor-F}
use Rattle.fidl_tree.specs.declared.type_constructor.LayoutBody.TheOpen.{NamedType-F}
use Rattle.fidl_tree.specs.declared.type_constructor.LayoutBody.TheOpen.{TypeArguments-F}
use Rattle.fidl_tree.specs.declared.type_constructor.LayoutBody.TheOpen.{NextTypeArgument-F}
use Rattle.fidl_tree.specs.declared.type_constructor.LayoutBody.TheOpen.{TypeArgument-F, Layout-F}
use Rattle.fidl_tree.specs.declared.type_constructor.LayoutBody.TheOpen.{LayoutBody-F}
use Rattle.fidl_tree.specs.declared.type_constructor.LayoutBody.TheOpen.{ValuesLayout-F}
use Rattle.fidl_tree.specs.declared.type_constructor.LayoutBody.TheOpen.{StructLayout-F}
use Rattle.fidl_tree.specs.declared.type_constructor.LayoutBody.TheOpen.{TableLayout-F}
use Rattle.fidl_tree.specs.declared.type_constructor.LayoutBody.TheOpen.{UnionLayout-F}
use Rattle.fidl_tree.specs.declared.type_constructor.LayoutBody.TheOpen.{Underlying-F}
use Rattle.fidl_tree.specs.declared.type_constructor.LayoutBody.TheOpen.{Member-F, OrdinalMember-F}
use Rattle.fidl_tree.specs.declared.type_constructor.LayoutBody.TheOpen.{OrdinalBody-F}
use Rattle.fidl_tree.specs.declared.type_constructor.LayoutBody.TheFolds.{fold-TypeConstructor}
use Rattle.fidl_tree.specs.declared.type_constructor.LayoutBody.TheFolds.{fold-NamedType}
use Rattle.fidl_tree.specs.declared.type_constructor.LayoutBody.TheFolds.{fold-TypeArguments}
use Rattle.fidl_tree.specs.declared.type_constructor.LayoutBody.TheFolds.{fold-NextTypeArgument}
use Rattle.fidl_tree.specs.declared.type_constructor.LayoutBody.TheFolds.{fold-TypeArgument}
use Rattle.fidl_tree.specs.declared.type_constructor.LayoutBody.TheFolds.{fold-Layout}
use Rattle.fidl_tree.specs.declared.type_constructor.LayoutBody.TheFolds.{fold-LayoutBody}
use Rattle.fidl_tree.specs.declared.type_constructor.LayoutBody.TheFolds.{fold-ValuesLayout}
use Rattle.fidl_tree.specs.declared.type_constructor.LayoutBody.TheFolds.{fold-Member}
use Rattle.fidl_tree.specs.declared.type_constructor.LayoutBody.TheFolds.{fold-OrdinalMember}
use Rattle.fidl_tree.specs.declared.protocol.ProtocolMember.{ProtocolMember}
use Rattle.fidl_tree.specs.declared.protocol.ProtocolMemberBody.{ProtocolMemberBody}
use Rattle.fidl_tree.specs.declared.protocol.ProtocolMemberBody.TheVariants as protocol
use Rattle.fidl_tree.specs.declared.protocol.Payload.{Payload}
use Rattle.fidl_tree.specs.declared.protocol.Response.{Response}
use Rattle.fidl_tree.specs.declared.protocol.ErrorType.{ErrorType}
use Rattle.fidl_tree.specs.declared.declaration.Declaration.{Declaration}
use Rattle.fidl_tree.specs.declared.declaration.DeclarationBody.{DeclarationBody}
use Rattle.fidl_tree.specs.declared.declaration.DeclarationBody.TheVariants as body
use Rattle.fidl_tree.specs.declared.declaration.Property.{Property}
use Rattle.fidl_tree.specs.declared.file.File.{File}
use Rattle.fidl_tree.specs.declared.file.Import.{Import}
use Rattle.fidl_tree.specs.declared.file.ImportAlias.{ImportAlias}

-- Names and values.

abbrev pub path_view : Path → plain.Path
path_view p = p.first ∷ map (λ (part : PathPart). part.name) p.rest.items

-- one level of a value of the tree, with what its parts represent in their places
abbrev ValueLevel : (Type 0 → Type 0 → Type 0 → Type 0) → Type 0
ValueLevel F = F plain.Operand plain.Operand plain.Value

abbrev value_step : ValueLevel Value-F → plain.Value
value_step v = plain.bitwise_or v.first (plain.operands_of v.rest.items)

abbrev or_operand_step : ValueLevel OrOperand-F → plain.Operand
or_operand_step o = o.operand

abbrev operand_step : ValueLevel Operand-F → plain.Operand
operand_step (Operand-F.Number minus digits) = plain.number_operand minus digits
operand_step (Operand-F.String s) = plain.string_operand s
operand_step (Operand-F.True s) = plain.bool_operand true s
operand_step (Operand-F.False s) = plain.bool_operand false s
operand_step (Operand-F.Path p) = plain.path_operand (path_view p)
operand_step (Operand-F.Group left value right) = plain.group_operand left value.value right

abbrev pub value_view : Value → plain.Value
value_view = fold-Value _ _ _ operand_step or_operand_step value_step

abbrev pub or_operand_view : OrOperand → plain.Operand
or_operand_view = fold-OrOperand _ _ _ operand_step or_operand_step value_step

abbrev pub operand_view : Operand → plain.Operand
operand_view = fold-Operand _ _ _ operand_step or_operand_step value_step

-- Attributes, constraints and modifiers.

abbrev pub argument_name_view : ArgumentName → Span
argument_name_view n = n.name

abbrev pub attribute_argument_view : Argument → plain.AttributeArgument
attribute_argument_view a =
    record { name = option_map argument_name_view a.name; value = value_view a.value }

abbrev pub argument_list_view : Option ArgumentList → List plain.AttributeArgument
argument_list_view None = []
argument_list_view (Some l) =
    attribute_argument_view l.first
    ∷ map (λ (n : NextArgument). attribute_argument_view n.argument) l.rest.items

abbrev pub attribute_arguments_view : Option Arguments → List plain.AttributeArgument
attribute_arguments_view None = []
attribute_arguments_view (Some a) = argument_list_view a.list

abbrev pub attribute_view : Attribute → plain.Attribute
attribute_view a = record { name = a.name; arguments = attribute_arguments_view a.arguments }

abbrev pub attributes_view : List Attribute → List plain.Attribute
attributes_view attributes = map attribute_view attributes

abbrev pub constraints_view : Option Constraints → List plain.Value
constraints_view None = []
constraints_view (Some (Single colon value)) = value_view value.value ∷ []
constraints_view (Some (Several colon less first rest greater)) =
    value_view first.value ∷ map (λ (n : NextConstraint). value_view n.value) rest.items

-- what has no modifier is flexible
abbrev pub is_strict : Option Strictness → Bool
is_strict (Some (Strict s)) = true
is_strict (Some (Flexible s)) = false
is_strict None = false

abbrev pub is_strict_union : UnionModifiers → Bool
is_strict_union (StrictnessFirst strictness resource) = is_strict strictness
is_strict_union (ResourceFirst resource strictness) = is_strict (Some strictness)

abbrev pub is_resource_union : UnionModifiers → Bool
is_resource_union (StrictnessFirst strictness resource) = is_some resource
is_resource_union (ResourceFirst resource strictness) = true

abbrev pub kind_view : ValuesKeyword → plain.ValuesKind
kind_view (Bits s) = plain.bits_kind
kind_view (Enum s) = plain.enum_kind

abbrev pub keyword_span : ValuesKeyword → Span
keyword_span (Bits s) = s
keyword_span (Enum s) = s

abbrev pub value_member_view : ValueMember → plain.ValueMember
value_member_view m = record {
  attributes = attributes_view m.attributes.items;
  name = m.name;
  value = value_view m.value;
}

-- Types and layouts.

-- a layout with its attributes
abbrev WithAttributes : Type 0
WithAttributes = List plain.Attribute × plain.Layout

-- a member of a table or a union, which depends on its attributes and its ordinal
abbrev AtOrdinal : Type 0
AtOrdinal = List plain.Attribute → Span → plain.Member

-- one level of a type of the tree, with what its parts represent in their places
abbrev Level :
    (Type 0 → Type 0 → Type 0 → Type 0 → Type 0 → Type 0 → Type 0 → Type 0 → Type 0 → Type 0
    → Type 0 → Type 0 → Type 0
    → Type 0 → Type 0 → Type 0)
    → Type 0
Level F =
    F plain.Layout AtOrdinal plain.Argument plain.TypeUse WithAttributes plain.Member plain.TypeUse
    plain.Argument
    plain.Member plain.Layout plain.Layout plain.Arguments plain.TypeUse plain.Layout plain.Layout

abbrev type_step : Level TypeConstructor-F → plain.TypeUse
type_step (TypeConstructor-F.Layout layout constraints) =
    plain.layout_type layout.value.0 layout.value.1 (constraints_view constraints)
type_step (TypeConstructor-F.Named named) = named.value

abbrev in_brackets : Option plain.Arguments → plain.Arguments
in_brackets None = plain.no_arguments
in_brackets (Some arguments) = arguments

abbrev named_step : Level NamedType-F → plain.TypeUse
named_step n =
    plain.named_type (path_view n.path) (in_brackets n.arguments) (constraints_view n.constraints)

abbrev type_arguments_step : Level TypeArguments-F → plain.Arguments
type_arguments_step a = plain.next_argument a.first.value (plain.arguments_of a.rest.items)

abbrev next_type_argument_step : Level NextTypeArgument-F → plain.Argument
next_type_argument_step n = n.argument

abbrev type_argument_step : Level TypeArgument-F → plain.Argument
type_argument_step (TypeArgument-F.Number s) = plain.number_argument s
type_argument_step (TypeArgument-F.Type constructor) = plain.type_argument constructor

abbrev layout_step : Level Layout-F → WithAttributes
layout_step l = (attributes_view l.attributes.items, l.body)

abbrev layout_body_step : Level LayoutBody-F → plain.Layout
layout_body_step (LayoutBody-F.Values layout) = layout
layout_body_step (LayoutBody-F.Struct layout) = layout
layout_body_step (LayoutBody-F.Table layout) = layout
layout_body_step (LayoutBody-F.Union layout) = layout

abbrev after_colon : Option plain.TypeUse → plain.Underlying
after_colon None = plain.no_underlying
after_colon (Some t) = plain.underlying_type t

abbrev values_layout_step : Level ValuesLayout-F → plain.Layout
values_layout_step l =
    plain.values_layout (kind_view l.keyword) (is_strict l.strictness) (keyword_span l.keyword)
    (after_colon l.underlying) (map value_member_view l.members.items)

abbrev struct_layout_step : Level StructLayout-F → plain.Layout
struct_layout_step l =
    plain.struct_layout (is_some l.resource) l.keyword (plain.members_of l.members.items)

abbrev table_layout_step : Level TableLayout-F → plain.Layout
table_layout_step l =
    plain.table_layout (is_some l.resource) l.keyword (plain.members_of l.members.items)

abbrev union_layout_step : Level UnionLayout-F → plain.Layout
union_layout_step l =
    plain.union_layout (is_strict_union l.modifiers) (is_resource_union l.modifiers) l.keyword
    (plain.members_of l.members.items)

abbrev underlying_step : Level Underlying-F → plain.TypeUse
underlying_step u = u.named

abbrev member_step : Level Member-F → plain.Member
member_step m = plain.named_member (attributes_view m.attributes.items) m.name m.constructor

abbrev ordinal_member_step : Level OrdinalMember-F → plain.Member
ordinal_member_step m = m.body (attributes_view m.attributes.items) m.ordinal

abbrev ordinal_body_step : Level OrdinalBody-F → AtOrdinal
ordinal_body_step (OrdinalBody-F.Reserved s) attributes ordinal =
    plain.reserved_member attributes ordinal
ordinal_body_step (OrdinalBody-F.Typed s constructor) attributes ordinal =
    plain.ordinal_member attributes ordinal s constructor

-- a fold by all these steps
abbrev by_steps : {R : Type 0}
    → ((Level LayoutBody-F → plain.Layout)
    → (Level OrdinalBody-F → AtOrdinal)
    → (Level TypeArgument-F → plain.Argument)
    → (Level TypeConstructor-F → plain.TypeUse)
    → (Level Layout-F → WithAttributes)
    → (Level Member-F → plain.Member)
    → (Level NamedType-F → plain.TypeUse)
    → (Level NextTypeArgument-F → plain.Argument)
    → (Level OrdinalMember-F → plain.Member)
    → (Level StructLayout-F → plain.Layout)
    → (Level TableLayout-F → plain.Layout)
    → (Level TypeArguments-F → plain.Arguments)
    → (Level Underlying-F → plain.TypeUse)
    → (Level UnionLayout-F → plain.Layout)
    → (Level ValuesLayout-F → plain.Layout)
    → R)
    → R
by_steps fold =
    fold layout_body_step ordinal_body_step type_argument_step type_step layout_step member_step
    named_step
    next_type_argument_step ordinal_member_step struct_layout_step table_layout_step
    type_arguments_step
    underlying_step union_layout_step values_layout_step

abbrev pub type_view : TypeConstructor → plain.TypeUse
type_view = by_steps (fold-TypeConstructor _ _ _ _ _ _ _ _ _ _ _ _ _ _ _)

abbrev pub named_view : NamedType → plain.TypeUse
named_view = by_steps (fold-NamedType _ _ _ _ _ _ _ _ _ _ _ _ _ _ _)

abbrev pub type_arguments_view : TypeArguments → plain.Arguments
type_arguments_view = by_steps (fold-TypeArguments _ _ _ _ _ _ _ _ _ _ _ _ _ _ _)

abbrev pub next_argument_view : NextTypeArgument → plain.Argument
next_argument_view = by_steps (fold-NextTypeArgument _ _ _ _ _ _ _ _ _ _ _ _ _ _ _)

abbrev pub argument_view : TypeArgument → plain.Argument
argument_view = by_steps (fold-TypeArgument _ _ _ _ _ _ _ _ _ _ _ _ _ _ _)

-- a layout with its attributes
abbrev pub layout_view : Layout → List plain.Attribute × plain.Layout
layout_view = by_steps (fold-Layout _ _ _ _ _ _ _ _ _ _ _ _ _ _ _)

abbrev pub body_view : LayoutBody → plain.Layout
body_view = by_steps (fold-LayoutBody _ _ _ _ _ _ _ _ _ _ _ _ _ _ _)

abbrev pub values_view : ValuesLayout → plain.Layout
values_view = by_steps (fold-ValuesLayout _ _ _ _ _ _ _ _ _ _ _ _ _ _ _)

abbrev pub member_view : Member → plain.Member
member_view = by_steps (fold-Member _ _ _ _ _ _ _ _ _ _ _ _ _ _ _)

abbrev pub ordinal_member_view : OrdinalMember → plain.Member
ordinal_member_view = by_steps (fold-OrdinalMember _ _ _ _ _ _ _ _ _ _ _ _ _ _ _)

-- Protocols.

abbrev pub payload_view : Payload → Option plain.TypeUse
payload_view p = option_map type_view p.constructor

abbrev pub error_view : ErrorType → plain.TypeUse
error_view e = type_view e.constructor

abbrev pub response_view : Response → plain.Response
response_view r = record { payload = payload_view r.payload; error = option_map error_view r.error }

-- what a protocol has, with these attributes
abbrev pub protocol_body_view : List plain.Attribute → ProtocolMemberBody → plain.ProtocolMember
protocol_body_view attributes (protocol.Compose c) =
    plain.compose_member attributes (path_view c.path)
protocol_body_view attributes (protocol.Method m) =
    plain.method_member attributes (is_strict m.strictness) m.name (payload_view m.request)
    (option_map response_view m.response)
protocol_body_view attributes (protocol.Event e) =
    plain.event_member attributes (is_strict e.strictness) e.name (payload_view e.payload)

abbrev pub protocol_member_view : ProtocolMember → plain.ProtocolMember
protocol_member_view m = protocol_body_view (attributes_view m.attributes.items) m.body

-- a protocol without a modifier is open
abbrev pub openness_view : Option Openness → plain.Openness
openness_view None = plain.open_protocol
openness_view (Some (Open s)) = plain.open_protocol
openness_view (Some (Ajar s)) = plain.ajar_protocol
openness_view (Some (Closed s)) = plain.closed_protocol

-- Declarations and files.

abbrev pub property_view : Property → plain.Member
property_view p = plain.named_member [] p.name (type_view p.constructor)

abbrev pub declared_view : DeclarationBody → plain.Body
declared_view (body.Const d) = plain.const_body (type_view d.constructor) (value_view d.value)
declared_view (body.Alias d) = plain.alias_body (type_view d.constructor)
declared_view (body.«Type» d) = plain.type_body (layout_view d.layout).0 (layout_view d.layout).1
declared_view (body.Protocol d) =
    plain.protocol_body (openness_view d.openness) (map protocol_member_view d.members.items)
declared_view (body.Service d) =
    plain.service_body (plain.members_of (map member_view d.members.items))
declared_view (body.Resource d) =
    plain.resource_body (type_view d.constructor)
    (plain.members_of (map property_view d.properties.members.items))

-- where the name of a declaration stands
abbrev pub declared_name : DeclarationBody → Span
declared_name (body.Const d) = d.name
declared_name (body.Alias d) = d.name
declared_name (body.«Type» d) = d.name
declared_name (body.Protocol d) = d.name
declared_name (body.Service d) = d.name
declared_name (body.Resource d) = d.name

abbrev pub declaration_view : Declaration → plain.Declaration
declaration_view d = record {
  attributes = attributes_view d.attributes.items;
  name = declared_name d.body;
  body = declared_view d.body;
}

abbrev pub import_alias_view : ImportAlias → Span
import_alias_view a = a.name

abbrev pub import_view : Import → plain.Import
import_view i = record {
  attributes = attributes_view i.attributes.items;
  path = path_view i.path;
  alias = option_map import_alias_view i.alias;
}

abbrev pub file_view : File → plain.File
file_view f = record {
  source = f.src.now;
  attributes = attributes_view f.library.attributes.items;
  library = path_view f.library.path;
  imports = map import_view f.imports.items;
  declarations = map declaration_view f.declarations.items;
}
