-- Small trees for worked facts, of the vectors and boxes that hold their parts.
use Rattle.std.specs.Prelude.{Option, Some, None}
use Rattle.std.specs.Global.{Vec, Box}
use Rattle.fidl_span.specs.declared.words.Span.{Span}
use Rattle.fidl_tree.specs.declared.path.Path.{Path}
use Rattle.fidl_tree.specs.declared.attribute.Attribute.{Attribute}
use Rattle.fidl_tree.specs.declared.keyword.Strictness.{Strictness}
use Rattle.fidl_tree.specs.declared.keyword.UnionModifiers.{UnionModifiers}
use Rattle.fidl_tree.specs.declared.keyword.ValuesKeyword.TheVariants.{Enum}
use Rattle.fidl_tree.specs.declared.value.Value.{Value, roll-Value}
use Rattle.fidl_tree.specs.declared.value.OrOperand.{OrOperand, roll-OrOperand}
use Rattle.fidl_tree.specs.declared.value.Operand.{Operand, roll-Operand}
use Rattle.fidl_tree.specs.declared.value.Operand.TheOpen.{Operand-F}
use Rattle.fidl_tree.specs.declared.value_member.ValueMember.{ValueMember}
use Rattle.fidl_tree.specs.declared.constraint.Constraints.{Constraints}
use Rattle.fidl_tree.specs.declared.type_constructor.TypeConstructor.{TypeConstructor}
use Rattle.fidl_tree.specs.declared.type_constructor.NamedType.{NamedType, roll-NamedType}
use Rattle.fidl_tree.specs.declared.type_constructor.TypeArguments.{TypeArguments}
use Rattle.fidl_tree.specs.declared.type_constructor.TypeArguments.{roll-TypeArguments}
use Rattle.fidl_tree.specs.declared.type_constructor.NextTypeArgument.{NextTypeArgument}
use Rattle.fidl_tree.specs.declared.type_constructor.NextTypeArgument.{roll-NextTypeArgument}
use Rattle.fidl_tree.specs.declared.type_constructor.TypeArgument.{TypeArgument, roll-TypeArgument}
use Rattle.fidl_tree.specs.declared.type_constructor.ValuesLayout.{ValuesLayout, roll-ValuesLayout}
use Rattle.fidl_tree.specs.declared.type_constructor.StructLayout.{StructLayout, roll-StructLayout}
use Rattle.fidl_tree.specs.declared.type_constructor.UnionLayout.{UnionLayout, roll-UnionLayout}
use Rattle.fidl_tree.specs.declared.type_constructor.LayoutBody.{LayoutBody, roll-LayoutBody}
use Rattle.fidl_tree.specs.declared.type_constructor.LayoutBody.TheOpen.{TypeArgument-F}
use Rattle.fidl_tree.specs.declared.type_constructor.LayoutBody.TheOpen.{LayoutBody-F}
use Rattle.fidl_tree.specs.declared.type_constructor.LayoutBody.TheOpen.{OrdinalBody-F}
use Rattle.fidl_tree.specs.declared.type_constructor.Member.{Member}
use Rattle.fidl_tree.specs.declared.type_constructor.OrdinalMember.{OrdinalMember}
use Rattle.fidl_tree.specs.declared.type_constructor.OrdinalMember.{roll-OrdinalMember}
use Rattle.fidl_tree.specs.declared.type_constructor.OrdinalBody.{roll-OrdinalBody}

-- a word at the start
abbrev pub word : Span
word = record { from = 0; to = 1 }

-- `name | ..`, with these further operands
abbrev pub path_or : Path → Vec OrOperand → Value
path_or path rest = roll-Value record { first = roll-Operand (Operand-F.Path path); rest = rest }

-- `| number`
abbrev pub or_number : Span → OrOperand
or_number digits =
    roll-OrOperand record { bar = word; operand = roll-Operand (Operand-F.Number None digits) }

-- `name<..>:..`, with these arguments and constraints
abbrev pub named_with : Path → Box TypeArgument → Vec NextTypeArgument → Constraints → NamedType
named_with path first rest constraints = roll-NamedType record {
  path = path;
  arguments =
      Some (roll-TypeArguments record { less = word; first = first; rest = rest; greater = word });
  constraints = Some constraints;
}

-- a type and a number as arguments
abbrev pub type_tree : TypeConstructor → TypeArgument
type_tree t = roll-TypeArgument (TypeArgument-F.Type t)

abbrev pub next_number : Span → NextTypeArgument
next_number n =
    roll-NextTypeArgument
    record { comma = word; argument = roll-TypeArgument (TypeArgument-F.Number n) }

-- `struct {..}`
abbrev pub struct_with : Vec Member → LayoutBody
struct_with members = roll-LayoutBody (LayoutBody-F.Struct (roll-StructLayout record {
  resource = None;
  keyword = word;
  left = word;
  members = members;
  right = word;
}))

-- `enum {..}`, with this modifier
abbrev pub enum_with : Option Strictness → Vec ValueMember → LayoutBody
enum_with strictness members = roll-LayoutBody (LayoutBody-F.Values (roll-ValuesLayout record {
  strictness = strictness;
  keyword = Enum word;
  underlying = None;
  left = word;
  members = members;
  right = word;
}))

-- `union {..}`, with these modifiers
abbrev pub union_with : UnionModifiers → Vec OrdinalMember → LayoutBody
union_with modifiers members = roll-LayoutBody (LayoutBody-F.Union (roll-UnionLayout record {
  modifiers = modifiers;
  keyword = word;
  left = word;
  members = members;
  right = word;
}))

-- `ordinal: reserved;`
abbrev pub reserved_at : Vec Attribute → Span → OrdinalMember
reserved_at attributes ordinal = roll-OrdinalMember record {
  attributes = attributes;
  ordinal = ordinal;
  colon = word;
  body = roll-OrdinalBody (OrdinalBody-F.Reserved word);
  semicolon = word;
}

-- `ordinal: name type;`
abbrev pub typed_at : Vec Attribute → Span → Span → TypeConstructor → OrdinalMember
typed_at attributes ordinal name t = roll-OrdinalMember record {
  attributes = attributes;
  ordinal = ordinal;
  colon = word;
  body = roll-OrdinalBody (OrdinalBody-F.Typed name t);
  semicolon = word;
}
