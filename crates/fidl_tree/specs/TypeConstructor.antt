-- Types and layouts (docs/language.md, "Grammar"). Since they hold one another, a step says which
-- leaves one level has, with the leaves of each part in the part's place, and the leaves of a whole
-- type are those by all steps together.
use Rattle.std.specs.Prelude.{ℕ, List, [], ◌∷◌, ◌++◌, Option, map, codes}
use Rattle.fidl_span.specs.declared.words.WordKind.TheVariants as kind
use Rattle.fidl_tree.specs.Leaf.{Leaf, none_of, symbol, name, keyword, optional, joined, braced}
use Rattle.fidl_tree.specs.Path.{path_from}
use Rattle.fidl_tree.specs.Attribute.{attributes_leaves}
use Rattle.fidl_tree.specs.Constraint.{constraints_leaves}
use Rattle.fidl_tree.specs.Keyword.{strictness_leaves, resource_leaves, values_keyword_leaves}
use Rattle.fidl_tree.specs.Keyword.{union_modifiers_leaves}
use Rattle.fidl_tree.specs.ValueMember.{value_member_leaves}
use Rattle.fidl_tree.specs.declared.type_constructor.TypeConstructor.{TypeConstructor}
use Rattle.fidl_tree.specs.declared.type_constructor.NamedType.{NamedType}
use Rattle.fidl_tree.specs.declared.type_constructor.TypeArguments.{TypeArguments}
use Rattle.fidl_tree.specs.declared.type_constructor.NextTypeArgument.{NextTypeArgument}
use Rattle.fidl_tree.specs.declared.type_constructor.TypeArgument.{TypeArgument}
use Rattle.fidl_tree.specs.declared.type_constructor.Layout.{Layout}
use Rattle.fidl_tree.specs.declared.type_constructor.LayoutBody.{LayoutBody}
use Rattle.fidl_tree.specs.declared.type_constructor.ValuesLayout.{ValuesLayout}
use Rattle.fidl_tree.specs.declared.type_constructor.StructLayout.{StructLayout}
use Rattle.fidl_tree.specs.declared.type_constructor.TableLayout.{TableLayout}
use Rattle.fidl_tree.specs.declared.type_constructor.UnionLayout.{UnionLayout}
use Rattle.fidl_tree.specs.declared.type_constructor.Underlying.{Underlying}
use Rattle.fidl_tree.specs.declared.type_constructor.Member.{Member}
use Rattle.fidl_tree.specs.declared.type_constructor.OrdinalMember.{OrdinalMember}
use Rattle.fidl_tree.specs.declared.type_constructor.OrdinalBody.{OrdinalBody}
use Rattle.fidl_tree.specs.declared.type_constructor.LayoutBody.TheOpen.{TypeConstructor-F}
use Rattle.fidl_tree.specs.declared.type_constructor.LayoutBody.TheOpen.{NamedType-F}
use Rattle.fidl_tree.specs.declared.type_constructor.LayoutBody.TheOpen.{TypeArguments-F}
use Rattle.fidl_tree.specs.declared.type_constructor.LayoutBody.TheOpen.{NextTypeArgument-F}
use Rattle.fidl_tree.specs.declared.type_constructor.LayoutBody.TheOpen.{TypeArgument-F, Layout-F}
use Rattle.fidl_tree.specs.declared.type_constructor.LayoutBody.TheOpen.{LayoutBody-F}
use Rattle.fidl_tree.specs.declared.type_constructor.LayoutBody.TheOpen.{ValuesLayout-F}
use Rattle.fidl_tree.specs.declared.type_constructor.LayoutBody.TheOpen.{StructLayout-F}
use Rattle.fidl_tree.specs.declared.type_constructor.LayoutBody.TheOpen.{TableLayout-F}
use Rattle.fidl_tree.specs.declared.type_constructor.LayoutBody.TheOpen.{UnionLayout-F}
use Rattle.fidl_tree.specs.declared.type_constructor.LayoutBody.TheOpen.{Underlying-F}
use Rattle.fidl_tree.specs.declared.type_constructor.LayoutBody.TheOpen.{Member-F, OrdinalMember-F}
use Rattle.fidl_tree.specs.declared.type_constructor.LayoutBody.TheOpen.{OrdinalBody-F}
use Rattle.fidl_tree.specs.declared.type_constructor.LayoutBody.TheFolds.{fold-TypeConstructor}
use Rattle.fidl_tree.specs.declared.type_constructor.LayoutBody.TheFolds.{fold-NamedType}
use Rattle.fidl_tree.specs.declared.type_constructor.LayoutBody.TheFolds.{fold-TypeArguments}
use Rattle.fidl_tree.specs.declared.type_constructor.LayoutBody.TheFolds.{fold-NextTypeArgument}
use Rattle.fidl_tree.specs.declared.type_constructor.LayoutBody.TheFolds.{fold-TypeArgument}
use Rattle.fidl_tree.specs.declared.type_constructor.LayoutBody.TheFolds.{fold-Layout}
use Rattle.fidl_tree.specs.declared.type_constructor.LayoutBody.TheFolds.{fold-LayoutBody}
use Rattle.fidl_tree.specs.declared.type_constructor.LayoutBody.TheFolds.{fold-ValuesLayout}
use Rattle.fidl_tree.specs.declared.type_constructor.LayoutBody.TheFolds.{fold-StructLayout}
use Rattle.fidl_tree.specs.declared.type_constructor.LayoutBody.TheFolds.{fold-TableLayout}
use Rattle.fidl_tree.specs.declared.type_constructor.LayoutBody.TheFolds.{fold-UnionLayout}
use Rattle.fidl_tree.specs.declared.type_constructor.LayoutBody.TheFolds.{fold-Underlying}
use Rattle.fidl_tree.specs.declared.type_constructor.LayoutBody.TheFolds.{fold-Member}
use Rattle.fidl_tree.specs.declared.type_constructor.LayoutBody.TheFolds.{fold-OrdinalMember}
use Rattle.fidl_tree.specs.declared.type_constructor.LayoutBody.TheFolds.{fold-OrdinalBody}

abbrev L : Type 0
L = List Leaf

-- one level of a type of the tree, with leaves in the place of each part
abbrev Level :
    (Type 0 → Type 0 → Type 0 → Type 0 → Type 0 → Type 0 → Type 0 → Type 0 → Type 0 → Type 0
    → Type 0 → Type 0 → Type 0
    → Type 0 → Type 0 → Type 0)
    → Type 0
Level F = F L L L L L L L L L L L L L L L

-- a part that may be left out, in whose place its leaves stand
abbrev given : Option L → L
given = optional (λ part. part)

-- Layout words: where a type may stand these always begin a layout, so a named type does not begin
-- with them.
abbrev layout_words : List (List ℕ)
layout_words =
    codes "bits" ∷ codes "enum" ∷ codes "struct" ∷ codes "table" ∷ codes "union" ∷ codes "strict"
    ∷ codes "flexible"
    ∷ codes "resource" ∷ []

-- type = layout [constraints] | named
abbrev type_step : Level TypeConstructor-F → L
type_step (TypeConstructor-F.Layout layout constraints) = layout.value
    ++ optional constraints_leaves constraints
type_step (TypeConstructor-F.Named named) = named.value

-- named = path [type_arguments] [constraints]
abbrev named_step : Level NamedType-F → L
named_step n = path_from (none_of layout_words) n.path ++ given n.arguments
    ++ optional constraints_leaves n.constraints

-- type_arguments = "<" type_argument { next_type_argument } ">"
abbrev type_arguments_step : Level TypeArguments-F → L
type_arguments_step a = symbol kind.Less a.less ++ a.first.value ++ joined a.rest.items
    ++ symbol kind.Greater a.greater

-- next_type_argument = "," type_argument
abbrev next_type_argument_step : Level NextTypeArgument-F → L
next_type_argument_step n = symbol kind.Comma n.comma ++ n.argument

-- type_argument = number | type
abbrev type_argument_step : Level TypeArgument-F → L
type_argument_step (TypeArgument-F.Number number) = symbol kind.Number number
type_argument_step (TypeArgument-F.Type constructor) = constructor

-- layout = attributes layout_body. Attributes of a layout: those before its first word belong to
-- it.
abbrev layout_step : Level Layout-F → L
layout_step l = attributes_leaves l.attributes.items ++ l.body

-- layout_body = values_layout | struct_layout | table_layout | union_layout
abbrev layout_body_step : Level LayoutBody-F → L
layout_body_step (LayoutBody-F.Values layout) = layout
layout_body_step (LayoutBody-F.Struct layout) = layout
layout_body_step (LayoutBody-F.Table layout) = layout
layout_body_step (LayoutBody-F.Union layout) = layout

-- values_layout = [strictness] values_keyword [underlying] "{" { value_member } "}"
abbrev values_layout_step : Level ValuesLayout-F → L
values_layout_step l =
    optional strictness_leaves l.strictness ++ values_keyword_leaves l.keyword ++ given l.underlying
    ++ braced l.left (joined (map value_member_leaves l.members.items)) l.right

-- struct_layout = [resource] "struct" "{" { member } "}"
abbrev struct_layout_step : Level StructLayout-F → L
struct_layout_step l =
    optional resource_leaves l.resource ++ keyword (codes "struct") l.keyword
    ++ braced l.left (joined l.members.items) l.right

-- table_layout = [resource] "table" "{" { ordinal_member } "}"
abbrev table_layout_step : Level TableLayout-F → L
table_layout_step l =
    optional resource_leaves l.resource ++ keyword (codes "table") l.keyword
    ++ braced l.left (joined l.members.items) l.right

-- union_layout = union_modifiers "union" "{" { ordinal_member } "}"
abbrev union_layout_step : Level UnionLayout-F → L
union_layout_step l =
    union_modifiers_leaves l.modifiers ++ keyword (codes "union") l.keyword
    ++ braced l.left (joined l.members.items) l.right

-- underlying = ":" named. Underlying type: a colon behind `bits` or `enum` gives it, and it is
-- never a layout.
abbrev underlying_step : Level Underlying-F → L
underlying_step u = symbol kind.Colon u.colon ++ u.named

-- member = attributes ident type ";"
abbrev member_step : Level Member-F → L
member_step m =
    attributes_leaves m.attributes.items ++ name m.name ++ m.constructor
    ++ symbol kind.Semicolon m.semicolon

-- ordinal_member = attributes number ":" ordinal_body ";"
abbrev ordinal_member_step : Level OrdinalMember-F → L
ordinal_member_step m =
    attributes_leaves m.attributes.items ++ symbol kind.Number m.ordinal
    ++ symbol kind.Colon m.colon ++ m.body
    ++ symbol kind.Semicolon m.semicolon

-- ordinal_body = "reserved" | ident type
abbrev ordinal_body_step : Level OrdinalBody-F → L
ordinal_body_step (OrdinalBody-F.Reserved s) = keyword (codes "reserved") s
ordinal_body_step (OrdinalBody-F.Typed s constructor) = name s ++ constructor

-- The leaves of whole types, by these steps at every level.

-- a fold by all these steps
abbrev by_steps : {R : Type 0}
    → ((Level LayoutBody-F → L)
    → (Level OrdinalBody-F → L)
    → (Level TypeArgument-F → L)
    → (Level TypeConstructor-F → L)
    → (Level Layout-F → L)
    → (Level Member-F → L)
    → (Level NamedType-F → L)
    → (Level NextTypeArgument-F → L)
    → (Level OrdinalMember-F → L)
    → (Level StructLayout-F → L)
    → (Level TableLayout-F → L)
    → (Level TypeArguments-F → L)
    → (Level Underlying-F → L)
    → (Level UnionLayout-F → L)
    → (Level ValuesLayout-F → L)
    → R)
    → R
by_steps fold =
    fold layout_body_step ordinal_body_step type_argument_step type_step layout_step member_step
    named_step
    next_type_argument_step ordinal_member_step struct_layout_step table_layout_step
    type_arguments_step
    underlying_step union_layout_step values_layout_step

abbrev pub type_leaves : TypeConstructor → List Leaf
type_leaves = by_steps (fold-TypeConstructor _ _ _ _ _ _ _ _ _ _ _ _ _ _ _)

abbrev pub named_leaves : NamedType → List Leaf
named_leaves = by_steps (fold-NamedType _ _ _ _ _ _ _ _ _ _ _ _ _ _ _)

abbrev pub type_arguments_leaves : TypeArguments → List Leaf
type_arguments_leaves = by_steps (fold-TypeArguments _ _ _ _ _ _ _ _ _ _ _ _ _ _ _)

abbrev pub next_type_argument_leaves : NextTypeArgument → List Leaf
next_type_argument_leaves = by_steps (fold-NextTypeArgument _ _ _ _ _ _ _ _ _ _ _ _ _ _ _)

abbrev pub type_argument_leaves : TypeArgument → List Leaf
type_argument_leaves = by_steps (fold-TypeArgument _ _ _ _ _ _ _ _ _ _ _ _ _ _ _)

abbrev pub layout_leaves : Layout → List Leaf
layout_leaves = by_steps (fold-Layout _ _ _ _ _ _ _ _ _ _ _ _ _ _ _)

abbrev pub layout_body_leaves : LayoutBody → List Leaf
layout_body_leaves = by_steps (fold-LayoutBody _ _ _ _ _ _ _ _ _ _ _ _ _ _ _)

abbrev pub values_layout_leaves : ValuesLayout → List Leaf
values_layout_leaves = by_steps (fold-ValuesLayout _ _ _ _ _ _ _ _ _ _ _ _ _ _ _)

abbrev pub struct_layout_leaves : StructLayout → List Leaf
struct_layout_leaves = by_steps (fold-StructLayout _ _ _ _ _ _ _ _ _ _ _ _ _ _ _)

abbrev pub table_layout_leaves : TableLayout → List Leaf
table_layout_leaves = by_steps (fold-TableLayout _ _ _ _ _ _ _ _ _ _ _ _ _ _ _)

abbrev pub union_layout_leaves : UnionLayout → List Leaf
union_layout_leaves = by_steps (fold-UnionLayout _ _ _ _ _ _ _ _ _ _ _ _ _ _ _)

abbrev pub underlying_leaves : Underlying → List Leaf
underlying_leaves = by_steps (fold-Underlying _ _ _ _ _ _ _ _ _ _ _ _ _ _ _)

abbrev pub member_leaves : Member → List Leaf
member_leaves = by_steps (fold-Member _ _ _ _ _ _ _ _ _ _ _ _ _ _ _)

abbrev pub ordinal_member_leaves : OrdinalMember → List Leaf
ordinal_member_leaves = by_steps (fold-OrdinalMember _ _ _ _ _ _ _ _ _ _ _ _ _ _ _)

abbrev pub ordinal_body_leaves : OrdinalBody → List Leaf
ordinal_body_leaves = by_steps (fold-OrdinalBody _ _ _ _ _ _ _ _ _ _ _ _ _ _ _)
