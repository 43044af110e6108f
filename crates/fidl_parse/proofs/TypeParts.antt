-- The leaves of types and layouts part by part.
use Rattle.std.proofs.Common.{Vec, Global, ◌≡◌, ℕ, List, ◌++◌, Option, None, Some, codes, ap, sym, subst, ◌∙◌, Vec}
use Rattle.fidl_span.specs.declared.words.Span.{Span}
use Rattle.fidl_span.specs.declared.words.WordKind.TheVariants as kind
use Rattle.fidl_tree.specs.Leaf.{Leaf, symbol, name, keyword, optional, braced, none_of}
use Rattle.fidl_tree.specs.Path.{path_from}
use Rattle.fidl_tree.specs.Attribute.{attributes_leaves}
use Rattle.fidl_tree.specs.Constraint.{constraints_leaves}
use Rattle.fidl_tree.specs.Keyword.{strictness_leaves, resource_leaves, values_keyword_leaves, union_modifiers_leaves}
use Rattle.fidl_tree.specs.ValueMember.{value_member_leaves}
use Rattle.fidl_tree.specs.TypeConstructor.{type_leaves, named_leaves, type_arguments_leaves, next_type_argument_leaves, type_argument_leaves, layout_leaves, layout_body_leaves, values_layout_leaves, struct_layout_leaves, table_layout_leaves, union_layout_leaves, underlying_leaves, member_leaves, ordinal_member_leaves, ordinal_body_leaves}
use Rattle.fidl_tree.specs.declared.keyword.Strictness.{Strictness}
use Rattle.fidl_tree.specs.declared.keyword.ValuesKeyword.{ValuesKeyword}
use Rattle.fidl_tree.specs.declared.value_member.ValueMember.{ValueMember}
use Rattle.fidl_tree.specs.declared.type_constructor.TypeConstructor.{TypeConstructor, out-TypeConstructor, roll-TypeConstructor, roll-out-TypeConstructor}
use Rattle.fidl_tree.specs.declared.type_constructor.NamedType.{NamedType, out-NamedType, roll-out-NamedType}
use Rattle.fidl_tree.specs.declared.type_constructor.TypeArguments.{TypeArguments, out-TypeArguments}
use Rattle.fidl_tree.specs.declared.type_constructor.NextTypeArgument.{NextTypeArgument, out-NextTypeArgument}
use Rattle.fidl_tree.specs.declared.type_constructor.TypeArgument.{TypeArgument, out-TypeArgument, roll-TypeArgument, roll-out-TypeArgument}
use Rattle.fidl_tree.specs.declared.type_constructor.Layout.{Layout, out-Layout}
use Rattle.fidl_tree.specs.declared.type_constructor.LayoutBody.{LayoutBody, out-LayoutBody, roll-LayoutBody, roll-out-LayoutBody}
use Rattle.fidl_tree.specs.declared.type_constructor.ValuesLayout.{ValuesLayout, out-ValuesLayout, roll-ValuesLayout, roll-out-ValuesLayout}
use Rattle.fidl_tree.specs.declared.type_constructor.StructLayout.{StructLayout, out-StructLayout}
use Rattle.fidl_tree.specs.declared.type_constructor.TableLayout.{TableLayout, out-TableLayout}
use Rattle.fidl_tree.specs.declared.type_constructor.UnionLayout.{UnionLayout, out-UnionLayout}
use Rattle.fidl_tree.specs.declared.type_constructor.Underlying.{Underlying, out-Underlying}
use Rattle.fidl_tree.specs.declared.type_constructor.Member.{Member, out-Member}
use Rattle.fidl_tree.specs.declared.type_constructor.OrdinalMember.{OrdinalMember, out-OrdinalMember}
use Rattle.fidl_tree.specs.declared.type_constructor.OrdinalBody.{OrdinalBody, out-OrdinalBody, roll-OrdinalBody, roll-out-OrdinalBody}
use Rattle.fidl_tree.specs.declared.type_constructor.LayoutBody.TheOpen.{TypeConstructor-F, TypeArgument-F, LayoutBody-F, OrdinalBody-F}
use Rattle.fidl_tree.specs.declared.type_constructor.LayoutBody.TheFolds.{fold_out-TypeArguments, fold_out-NextTypeArgument, fold_out-Layout, fold_out-StructLayout, fold_out-TableLayout, fold_out-UnionLayout, fold_out-Underlying, fold_out-Member, fold_out-OrdinalMember, fold-roll-TypeConstructor, fold-roll-TypeArgument, fold-roll-LayoutBody, fold-roll-OrdinalBody, fold-roll-ValuesLayout}
use Rattle.fidl_tree.specs.declared.type_constructor.OrdinalBody.TheVariants as ordinal
use Rattle.fidl_parse.specs.declared.parser.Parser.{Parser}
use Rattle.fidl_parse.specs.Reading.{Reads}
use Rattle.fidl_parse.proofs.Joins.{reads_join}
use Rattle.fidl_parse.specs.Choices.{layout_words}
use Rattle.fidl_parse.specs.Completeness.{row}
use Rattle.fidl_parse.proofs.Types.{named_built}

-- one level of a type of the tree
abbrev pub Open : (Type 0 → Type 0 → Type 0 → Type 0 → Type 0 → Type 0 → Type 0 → Type 0 → Type 0 → Type 0 → Type 0 → Type 0 → Type 0 → Type 0 → Type 0 → Type 0) → Type 0
Open F = F LayoutBody OrdinalBody TypeArgument TypeConstructor Layout Member NamedType NextTypeArgument OrdinalMember StructLayout TableLayout TypeArguments Underlying UnionLayout ValuesLayout

pub named_parts : (x : NamedType) → named_leaves x
    ≡ path_from (none_of layout_words) (out-NamedType x).path ++ optional type_arguments_leaves (out-NamedType x).arguments ++ optional constraints_leaves (out-NamedType x).constraints
named_parts x = ap named_leaves (sym (roll-out-NamedType x)) ∙ named_built (out-NamedType x).path (out-NamedType x).arguments (out-NamedType x).constraints

pub type_arguments_parts : (x : TypeArguments) → type_arguments_leaves x
    ≡ symbol kind.Less (out-TypeArguments x).less ++ type_argument_leaves (out-TypeArguments x).first.value
    ++ row next_type_argument_leaves (out-TypeArguments x).rest.items ++ symbol kind.Greater (out-TypeArguments x).greater
type_arguments_parts x = rw fold_out-TypeArguments

pub next_type_argument_parts : (x : NextTypeArgument) → next_type_argument_leaves x
    ≡ symbol kind.Comma (out-NextTypeArgument x).comma ++ type_argument_leaves (out-NextTypeArgument x).argument
next_type_argument_parts x = rw fold_out-NextTypeArgument

pub layout_parts : (x : Layout) → layout_leaves x ≡ attributes_leaves (out-Layout x).attributes.items ++ layout_body_leaves (out-Layout x).body
layout_parts x = rw fold_out-Layout

pub struct_parts : (x : StructLayout) → struct_layout_leaves x
    ≡ optional resource_leaves (out-StructLayout x).resource ++ keyword (codes "struct") (out-StructLayout x).keyword
    ++ braced (out-StructLayout x).left (row member_leaves (out-StructLayout x).members.items) (out-StructLayout x).right
struct_parts x = rw fold_out-StructLayout

pub table_parts : (x : TableLayout) → table_layout_leaves x
    ≡ optional resource_leaves (out-TableLayout x).resource ++ keyword (codes "table") (out-TableLayout x).keyword
    ++ braced (out-TableLayout x).left (row ordinal_member_leaves (out-TableLayout x).members.items) (out-TableLayout x).right
table_parts x = rw fold_out-TableLayout

pub union_parts : (x : UnionLayout) → union_layout_leaves x
    ≡ union_modifiers_leaves (out-UnionLayout x).modifiers ++ keyword (codes "union") (out-UnionLayout x).keyword
    ++ braced (out-UnionLayout x).left (row ordinal_member_leaves (out-UnionLayout x).members.items) (out-UnionLayout x).right
union_parts x = rw fold_out-UnionLayout

pub values_built : (strictness : Option Strictness) (word : ValuesKeyword) (underlying : Option Underlying) (left : Span) (members : Vec ValueMember Global) (right : Span)
    → values_layout_leaves (roll-ValuesLayout record { strictness = strictness; keyword = word; underlying = underlying; left = left; members = members; right = right })
    ≡ optional strictness_leaves strictness ++ values_keyword_leaves word ++ optional underlying_leaves underlying ++ braced left (row value_member_leaves members.items) right
values_built strictness word None left members right = rw fold-roll-ValuesLayout
values_built strictness word (Some x) left members right = rw fold-roll-ValuesLayout

pub values_parts : (x : ValuesLayout) → values_layout_leaves x
    ≡ optional strictness_leaves (out-ValuesLayout x).strictness ++ values_keyword_leaves (out-ValuesLayout x).keyword ++ optional underlying_leaves (out-ValuesLayout x).underlying
    ++ braced (out-ValuesLayout x).left (row value_member_leaves (out-ValuesLayout x).members.items) (out-ValuesLayout x).right
values_parts x = ap values_layout_leaves (sym (roll-out-ValuesLayout x))
    ∙ values_built (out-ValuesLayout x).strictness (out-ValuesLayout x).keyword (out-ValuesLayout x).underlying (out-ValuesLayout x).left (out-ValuesLayout x).members (out-ValuesLayout x).right

pub underlying_parts : (x : Underlying) → underlying_leaves x ≡ symbol kind.Colon (out-Underlying x).colon ++ named_leaves (out-Underlying x).named
underlying_parts x = rw fold_out-Underlying

pub member_parts : (x : Member) → member_leaves x
    ≡ attributes_leaves (out-Member x).attributes.items ++ name (out-Member x).name ++ type_leaves (out-Member x).constructor ++ symbol kind.Semicolon (out-Member x).semicolon
member_parts x = rw fold_out-Member

pub ordinal_member_parts : (x : OrdinalMember) → ordinal_member_leaves x
    ≡ attributes_leaves (out-OrdinalMember x).attributes.items ++ symbol kind.Number (out-OrdinalMember x).ordinal ++ symbol kind.Colon (out-OrdinalMember x).colon
    ++ ordinal_body_leaves (out-OrdinalMember x).body ++ symbol kind.Semicolon (out-OrdinalMember x).semicolon
ordinal_member_parts x = rw fold_out-OrdinalMember

-- a choice at one level

abbrev pub type_level : Open TypeConstructor-F → List Leaf
type_level (TypeConstructor-F.Layout layout constraints) = layout_leaves layout.value ++ optional constraints_leaves constraints
type_level (TypeConstructor-F.Named named) = named_leaves named.value

type_rolled : (y : Open TypeConstructor-F) → type_leaves (roll-TypeConstructor y) ≡ type_level y
type_rolled (TypeConstructor-F.Layout layout constraints) = rw fold-roll-TypeConstructor
type_rolled (TypeConstructor-F.Named named) = rw fold-roll-TypeConstructor

pub type_parts : (x : TypeConstructor) → type_leaves x ≡ type_level (out-TypeConstructor x)
type_parts x = ap type_leaves (sym (roll-out-TypeConstructor x)) ∙ type_rolled (out-TypeConstructor x)

abbrev pub type_argument_level : Open TypeArgument-F → List Leaf
type_argument_level (TypeArgument-F.Number number) = symbol kind.Number number
type_argument_level (TypeArgument-F.Type constructor) = type_leaves constructor

type_argument_rolled : (y : Open TypeArgument-F) → type_argument_leaves (roll-TypeArgument y) ≡ type_argument_level y
type_argument_rolled (TypeArgument-F.Number number) = rw fold-roll-TypeArgument
type_argument_rolled (TypeArgument-F.Type constructor) = rw fold-roll-TypeArgument

pub type_argument_parts : (x : TypeArgument) → type_argument_leaves x ≡ type_argument_level (out-TypeArgument x)
type_argument_parts x = ap type_argument_leaves (sym (roll-out-TypeArgument x)) ∙ type_argument_rolled (out-TypeArgument x)

abbrev pub layout_body_level : Open LayoutBody-F → List Leaf
layout_body_level (LayoutBody-F.Values layout) = values_layout_leaves layout
layout_body_level (LayoutBody-F.Struct layout) = struct_layout_leaves layout
layout_body_level (LayoutBody-F.Table layout) = table_layout_leaves layout
layout_body_level (LayoutBody-F.Union layout) = union_layout_leaves layout

layout_body_rolled : (y : Open LayoutBody-F) → layout_body_leaves (roll-LayoutBody y) ≡ layout_body_level y
layout_body_rolled (LayoutBody-F.Values layout) = rw fold-roll-LayoutBody
layout_body_rolled (LayoutBody-F.Struct layout) = rw fold-roll-LayoutBody
layout_body_rolled (LayoutBody-F.Table layout) = rw fold-roll-LayoutBody
layout_body_rolled (LayoutBody-F.Union layout) = rw fold-roll-LayoutBody

pub layout_body_parts : (x : LayoutBody) → layout_body_leaves x ≡ layout_body_level (out-LayoutBody x)
layout_body_parts x = ap layout_body_leaves (sym (roll-out-LayoutBody x)) ∙ layout_body_rolled (out-LayoutBody x)

abbrev pub ordinal_body_level : Open OrdinalBody-F → List Leaf
ordinal_body_level (OrdinalBody-F.Reserved s) = keyword (codes "reserved") s
ordinal_body_level (OrdinalBody-F.Typed s constructor) = name s ++ type_leaves constructor

ordinal_body_rolled : (y : Open OrdinalBody-F) → ordinal_body_leaves (roll-OrdinalBody y) ≡ ordinal_body_level y
ordinal_body_rolled (OrdinalBody-F.Reserved s) = rw fold-roll-OrdinalBody
ordinal_body_rolled (OrdinalBody-F.Typed s constructor) = rw fold-roll-OrdinalBody

pub ordinal_body_parts : (x : OrdinalBody) → ordinal_body_leaves x ≡ ordinal_body_level (out-OrdinalBody x)
ordinal_body_parts x = ap ordinal_body_leaves (sym (roll-out-OrdinalBody x)) ∙ ordinal_body_rolled (out-OrdinalBody x)

pub typed_reads : (p : Parser) (a b c : ℕ) (s : Span) (constructor : TypeConstructor) → Reads p a b (name s) → Reads p b c (type_leaves constructor)
    → Reads p a c (ordinal_body_leaves (ordinal.Typed s constructor))
typed_reads p a b c s constructor q r =
    subst (λ l. Reads p a c l) (sym (ap ordinal_body_leaves (sym (ordinal.rolls-Typed s constructor)) ∙ ordinal_body_rolled (OrdinalBody-F.Typed s constructor)))
    (reads_join p a b c (name s) (type_leaves constructor) q r)
