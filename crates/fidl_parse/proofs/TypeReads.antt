-- The parts of types and layouts, read one after another, are the whole.
use Rattle.std.proofs.Common.{Vec, Global, ◌≡◌, ℕ, List, ◌++◌, Option, codes, sym, subst}
use Rattle.fidl_span.specs.declared.words.Span.{Span}
use Rattle.fidl_span.specs.declared.words.WordKind.TheVariants as kind
use Rattle.fidl_tree.specs.Leaf.{Leaf, symbol, name, keyword, optional}
use Rattle.fidl_tree.specs.Attribute.{attributes_leaves}
use Rattle.fidl_tree.specs.Keyword.{strictness_leaves, resource_leaves, values_keyword_leaves, union_modifiers_leaves}
use Rattle.fidl_tree.specs.ValueMember.{value_member_leaves}
use Rattle.fidl_tree.specs.TypeConstructor.{type_leaves, named_leaves, layout_leaves, layout_body_leaves, values_layout_leaves, struct_layout_leaves, table_layout_leaves, union_layout_leaves, underlying_leaves, member_leaves, ordinal_member_leaves, ordinal_body_leaves}
use Rattle.fidl_tree.specs.declared.attribute.Attribute.{Attribute}
use Rattle.fidl_tree.specs.declared.keyword.Strictness.{Strictness}
use Rattle.fidl_tree.specs.declared.keyword.Resource.{Resource}
use Rattle.fidl_tree.specs.declared.keyword.ValuesKeyword.{ValuesKeyword}
use Rattle.fidl_tree.specs.declared.keyword.UnionModifiers.{UnionModifiers}
use Rattle.fidl_tree.specs.declared.value_member.ValueMember.{ValueMember}
use Rattle.fidl_tree.specs.declared.type_constructor.TypeConstructor.{TypeConstructor}
use Rattle.fidl_tree.specs.declared.type_constructor.NamedType.{NamedType}
use Rattle.fidl_tree.specs.declared.type_constructor.LayoutBody.{LayoutBody}
use Rattle.fidl_tree.specs.declared.type_constructor.ValuesLayout.{roll-ValuesLayout}
use Rattle.fidl_tree.specs.declared.type_constructor.StructLayout.{roll-StructLayout}
use Rattle.fidl_tree.specs.declared.type_constructor.TableLayout.{roll-TableLayout}
use Rattle.fidl_tree.specs.declared.type_constructor.UnionLayout.{roll-UnionLayout}
use Rattle.fidl_tree.specs.declared.type_constructor.Layout.{roll-Layout}
use Rattle.fidl_tree.specs.declared.type_constructor.Underlying.{Underlying, roll-Underlying}
use Rattle.fidl_tree.specs.declared.type_constructor.Member.{Member, roll-Member}
use Rattle.fidl_tree.specs.declared.type_constructor.OrdinalMember.{OrdinalMember, roll-OrdinalMember}
use Rattle.fidl_tree.specs.declared.type_constructor.OrdinalBody.{OrdinalBody}
use Rattle.fidl_tree.specs.declared.type_constructor.LayoutBody.TheFolds.{fold-roll-Layout, fold-roll-StructLayout, fold-roll-TableLayout, fold-roll-UnionLayout, fold-roll-Underlying, fold-roll-Member, fold-roll-OrdinalMember}
use Rattle.fidl_parse.specs.declared.parser.Parser.{Parser}
use Rattle.fidl_parse.specs.Reading.{Reads}
use Rattle.fidl_parse.specs.Completeness.{row}
use Rattle.fidl_parse.proofs.Joins.{reads_join}
use Rattle.fidl_parse.proofs.TypeParts.{values_built}

-- members in braces behind a front
braced_reads : (p : Parser) (a b c d e : ℕ) (front members : List Leaf) (left right : Span)
    → Reads p a b front → Reads p b c (symbol kind.LeftBrace left) → Reads p c d members → Reads p d e (symbol kind.RightBrace right)
    → Reads p a e (front ++ ((symbol kind.LeftBrace left ++ members) ++ symbol kind.RightBrace right))
braced_reads p a b c d e front members left right f l m r =
    reads_join p a b e front ((symbol kind.LeftBrace left ++ members) ++ symbol kind.RightBrace right) f
    (reads_join p b d e (symbol kind.LeftBrace left ++ members) (symbol kind.RightBrace right) (reads_join p b c d (symbol kind.LeftBrace left) members l m) r)

pub struct_reads : (p : Parser) (a b c d e f : ℕ) (front : List Leaf) (resource : Option Resource) (word left : Span) (members : Vec Member Global) (right : Span)
    → front ≡ optional resource_leaves resource
    → Reads p a b front → Reads p b c (keyword (codes "struct") word) → Reads p c d (symbol kind.LeftBrace left) → Reads p d e (row member_leaves members.items)
    → Reads p e f (symbol kind.RightBrace right)
    → Reads p a f (struct_layout_leaves (roll-StructLayout record { resource = resource; keyword = word; left = left; members = members; right = right }))
struct_reads p a b c d e f front resource word left members right same h k l m r =
    rw fold-roll-StructLayout (rw (← same) (braced_reads p a c d e f (front ++ keyword (codes "struct") word) (row member_leaves members.items) left right (reads_join p a b c front (keyword (codes "struct") word) h k) l m r))

pub table_reads : (p : Parser) (a b c d e f : ℕ) (front : List Leaf) (resource : Option Resource) (word left : Span) (members : Vec OrdinalMember Global) (right : Span)
    → front ≡ optional resource_leaves resource
    → Reads p a b front → Reads p b c (keyword (codes "table") word) → Reads p c d (symbol kind.LeftBrace left) → Reads p d e (row ordinal_member_leaves members.items)
    → Reads p e f (symbol kind.RightBrace right)
    → Reads p a f (table_layout_leaves (roll-TableLayout record { resource = resource; keyword = word; left = left; members = members; right = right }))
table_reads p a b c d e f front resource word left members right same h k l m r =
    rw fold-roll-TableLayout (rw (← same) (braced_reads p a c d e f (front ++ keyword (codes "table") word) (row ordinal_member_leaves members.items) left right (reads_join p a b c front (keyword (codes "table") word) h k) l m r))

pub union_reads : (p : Parser) (a b c d e f : ℕ) (modifiers : UnionModifiers) (word left : Span) (members : Vec OrdinalMember Global) (right : Span)
    → Reads p a b (union_modifiers_leaves modifiers) → Reads p b c (keyword (codes "union") word) → Reads p c d (symbol kind.LeftBrace left) → Reads p d e (row ordinal_member_leaves members.items)
    → Reads p e f (symbol kind.RightBrace right)
    → Reads p a f (union_layout_leaves (roll-UnionLayout record { modifiers = modifiers; keyword = word; left = left; members = members; right = right }))
union_reads p a b c d e f modifiers word left members right h k l m r =
    rw fold-roll-UnionLayout (braced_reads p a c d e f (union_modifiers_leaves modifiers ++ keyword (codes "union") word) (row ordinal_member_leaves members.items) left right (reads_join p a b c (union_modifiers_leaves modifiers) (keyword (codes "union") word) h k) l m r)

pub values_reads : (p : Parser) (a b c d e f g : ℕ) (front : List Leaf) (strictness : Option Strictness) (word : ValuesKeyword) (underlying : Option Underlying) (left : Span) (members : Vec ValueMember Global) (right : Span)
    → front ≡ optional strictness_leaves strictness
    → Reads p a b front → Reads p b c (values_keyword_leaves word) → Reads p c d (optional underlying_leaves underlying) → Reads p d e (symbol kind.LeftBrace left)
    → Reads p e f (row value_member_leaves members.items) → Reads p f g (symbol kind.RightBrace right)
    → Reads p a g (values_layout_leaves (roll-ValuesLayout record { strictness = strictness; keyword = word; underlying = underlying; left = left; members = members; right = right }))
values_reads p a b c d e f g front strictness word underlying left members right same h k u l m r =
    let whole = braced_reads p a d e f g ((front ++ values_keyword_leaves word) ++ optional underlying_leaves underlying) (row value_member_leaves members.items) left right
    (reads_join p a c d (front ++ values_keyword_leaves word) (optional underlying_leaves underlying) (reads_join p a b c front (values_keyword_leaves word) h k) u) l m r in
    subst (λ l. Reads p a g l) (sym (values_built strictness word underlying left members right))
    (subst (λ l. Reads p a g (((l ++ values_keyword_leaves word) ++ optional underlying_leaves underlying) ++ ((symbol kind.LeftBrace left ++ row value_member_leaves members.items) ++ symbol kind.RightBrace right))) same whole)

pub layout_reads : (p : Parser) (a b c : ℕ) (attributes : Vec Attribute Global) (body : LayoutBody) → Reads p a b (attributes_leaves attributes.items) → Reads p b c (layout_body_leaves body)
    → Reads p a c (layout_leaves (roll-Layout record { attributes = attributes; body = body }))
layout_reads p a b c attributes body h k = rw fold-roll-Layout (reads_join p a b c (attributes_leaves attributes.items) (layout_body_leaves body) h k)

pub underlying_reads : (p : Parser) (a b c : ℕ) (colon : Span) (named : NamedType) → Reads p a b (symbol kind.Colon colon) → Reads p b c (named_leaves named)
    → Reads p a c (underlying_leaves (roll-Underlying record { colon = colon; named = named }))
underlying_reads p a b c colon named h k = rw fold-roll-Underlying (reads_join p a b c (symbol kind.Colon colon) (named_leaves named) h k)

pub member_reads : (p : Parser) (a b c d e : ℕ) (attributes : Vec Attribute Global) (s : Span) (constructor : TypeConstructor) (semicolon : Span)
    → Reads p a b (attributes_leaves attributes.items) → Reads p b c (name s) → Reads p c d (type_leaves constructor) → Reads p d e (symbol kind.Semicolon semicolon)
    → Reads p a e (member_leaves (roll-Member record { attributes = attributes; name = s; constructor = constructor; semicolon = semicolon }))
member_reads p a b c d e attributes s constructor semicolon h k l m =
    rw fold-roll-Member (reads_join p a d e ((attributes_leaves attributes.items ++ name s) ++ type_leaves constructor) (symbol kind.Semicolon semicolon)
    (reads_join p a c d (attributes_leaves attributes.items ++ name s) (type_leaves constructor) (reads_join p a b c (attributes_leaves attributes.items) (name s) h k) l) m)

pub ordinal_member_reads : (p : Parser) (a b c d e f : ℕ) (attributes : Vec Attribute Global) (ordinal colon : Span) (body : OrdinalBody) (semicolon : Span)
    → Reads p a b (attributes_leaves attributes.items) → Reads p b c (symbol kind.Number ordinal) → Reads p c d (symbol kind.Colon colon) → Reads p d e (ordinal_body_leaves body)
    → Reads p e f (symbol kind.Semicolon semicolon)
    → Reads p a f (ordinal_member_leaves (roll-OrdinalMember record { attributes = attributes; ordinal = ordinal; colon = colon; body = body; semicolon = semicolon }))
ordinal_member_reads p a b c d e f attributes ordinal colon body semicolon h k l m n =
    rw fold-roll-OrdinalMember (reads_join p a e f (((attributes_leaves attributes.items ++ symbol kind.Number ordinal) ++ symbol kind.Colon colon) ++ ordinal_body_leaves body) (symbol kind.Semicolon semicolon)
    (reads_join p a d e ((attributes_leaves attributes.items ++ symbol kind.Number ordinal) ++ symbol kind.Colon colon) (ordinal_body_leaves body)
    (reads_join p a c d (attributes_leaves attributes.items ++ symbol kind.Number ordinal) (symbol kind.Colon colon)
    (reads_join p a b c (attributes_leaves attributes.items) (symbol kind.Number ordinal) h k) l) m) n)
