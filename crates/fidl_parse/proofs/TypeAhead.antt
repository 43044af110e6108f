-- The parts of types and of their members that stand ahead, one after another.
use Rattle.std.proofs.Common.{ℕ, Bool, true, false, List, [], ◌∷◌, ◌++◌, append_assoc, refl, sym, subst}
use Rattle.fidl_span.specs.declared.words.WordKind.{WordKind}
use Rattle.fidl_span.specs.declared.words.WordKind.TheVariants as kind
use Rattle.fidl_tree.specs.Leaf.{Leaf, symbol, name, optional, none_of}
use Rattle.fidl_tree.specs.Path.{path_from}
use Rattle.fidl_tree.specs.Attribute.{attributes_leaves}
use Rattle.fidl_tree.specs.Constraint.{constraints_leaves}
use Rattle.fidl_tree.specs.TypeConstructor.{type_leaves, named_leaves, type_arguments_leaves, next_type_argument_leaves, type_argument_leaves, layout_leaves, layout_body_leaves, underlying_leaves, member_leaves, ordinal_member_leaves, ordinal_body_leaves}
use Rattle.fidl_tree.specs.declared.attribute.Attribute.{Attribute}
use Rattle.fidl_tree.specs.declared.type_constructor.NamedType.{NamedType, out-NamedType}
use Rattle.fidl_tree.specs.declared.type_constructor.TypeArguments.{TypeArguments, out-TypeArguments}
use Rattle.fidl_tree.specs.declared.type_constructor.NextTypeArgument.{NextTypeArgument, out-NextTypeArgument}
use Rattle.fidl_tree.specs.declared.type_constructor.Layout.{Layout, out-Layout}
use Rattle.fidl_tree.specs.declared.type_constructor.Underlying.{Underlying, out-Underlying}
use Rattle.fidl_tree.specs.declared.type_constructor.Member.{Member, out-Member}
use Rattle.fidl_tree.specs.declared.type_constructor.OrdinalMember.{OrdinalMember, out-OrdinalMember}
use Rattle.fidl_parse.specs.declared.parser.Parser.{Parser}
use Rattle.fidl_parse.specs.Choices.{layout_words}
use Rattle.fidl_parse.specs.Completeness.{Ahead, row}
use Rattle.fidl_parse.specs.FollowSets.{Begins}
use Rattle.fidl_parse.proofs.Ahead.{group}
use Rattle.fidl_parse.proofs.Follow.{Starts, starts_other}
use Rattle.fidl_parse.proofs.TypeParts.{named_parts, type_arguments_parts, next_type_argument_parts, layout_parts, underlying_parts, member_parts, ordinal_member_parts}

-- the parts of each kind of part, one after another

pub named_ahead : (p : Parser) (at : ℕ) (x : NamedType) (rest : List Leaf) → Ahead p at (named_leaves x ++ rest)
    → Ahead p at (path_from (none_of layout_words) (out-NamedType x).path ++ (optional type_arguments_leaves (out-NamedType x).arguments ++ (optional constraints_leaves (out-NamedType x).constraints ++ rest)))
named_ahead p at x rest a =
    let b = subst (λ l. Ahead p at (l ++ rest)) (named_parts x) a in
    let path = path_from (none_of layout_words) (out-NamedType x).path in
    let arguments = optional type_arguments_leaves (out-NamedType x).arguments in
    let constraints = optional constraints_leaves (out-NamedType x).constraints in
    group p at path arguments (constraints ++ rest) (group p at (path ++ arguments) constraints rest b)

pub type_arguments_begin : (y : TypeArguments) (ls : List Leaf) → Begins kind.Less (type_arguments_leaves y ++ ls)
type_arguments_begin y ls = subst (λ l. Begins kind.Less (l ++ ls)) (sym (type_arguments_parts y)) refl

pub next_type_argument_begins : (y : NextTypeArgument) (ls : List Leaf) → Begins kind.Comma (next_type_argument_leaves y ++ ls)
next_type_argument_begins y ls = subst (λ l. Begins kind.Comma (l ++ ls)) (sym (next_type_argument_parts y)) refl

pub underlying_begins : (y : Underlying) (ls : List Leaf) → Begins kind.Colon (underlying_leaves y ++ ls)
underlying_begins y ls = subst (λ l. Begins kind.Colon (l ++ ls)) (sym (underlying_parts y)) refl

pub type_arguments_ahead : (p : Parser) (at : ℕ) (x : TypeArguments) (rest : List Leaf) → Ahead p at (type_arguments_leaves x ++ rest)
    → Ahead p at (symbol kind.Less (out-TypeArguments x).less ++ (type_argument_leaves (out-TypeArguments x).first.value ++ (row next_type_argument_leaves (out-TypeArguments x).rest.items ++ (symbol kind.Greater (out-TypeArguments x).greater ++ rest))))
type_arguments_ahead p at x rest a =
    let b = subst (λ l. Ahead p at (l ++ rest)) (type_arguments_parts x) a in
    simp append_assoc at b

pub next_type_argument_ahead : (p : Parser) (at : ℕ) (x : NextTypeArgument) (rest : List Leaf) → Ahead p at (next_type_argument_leaves x ++ rest)
    → Ahead p at (symbol kind.Comma (out-NextTypeArgument x).comma ++ (type_argument_leaves (out-NextTypeArgument x).argument ++ rest))
next_type_argument_ahead p at x rest a = subst (λ l. Ahead p at (l ++ rest)) (next_type_argument_parts x) a

pub layout_ahead : (p : Parser) (at : ℕ) (x : Layout) (rest : List Leaf) → Ahead p at (layout_leaves x ++ rest)
    → Ahead p at (attributes_leaves (out-Layout x).attributes.items ++ (layout_body_leaves (out-Layout x).body ++ rest))
layout_ahead p at x rest a = group p at _ _ rest (subst (λ l. Ahead p at (l ++ rest)) (layout_parts x) a)

pub underlying_ahead : (p : Parser) (at : ℕ) (x : Underlying) (rest : List Leaf) → Ahead p at (underlying_leaves x ++ rest)
    → Ahead p at (symbol kind.Colon (out-Underlying x).colon ++ (named_leaves (out-Underlying x).named ++ rest))
underlying_ahead p at x rest a = subst (λ l. Ahead p at (l ++ rest)) (underlying_parts x) a

pub member_ahead : (p : Parser) (at : ℕ) (x : Member) (rest : List Leaf) → Ahead p at (member_leaves x ++ rest)
    → Ahead p at (attributes_leaves (out-Member x).attributes.items ++ (name (out-Member x).name ++ (type_leaves (out-Member x).constructor ++ (symbol kind.Semicolon (out-Member x).semicolon ++ rest))))
member_ahead p at x rest a =
    let b = subst (λ l. Ahead p at (l ++ rest)) (member_parts x) a in
    simp append_assoc at b

pub ordinal_member_ahead : (p : Parser) (at : ℕ) (x : OrdinalMember) (rest : List Leaf) → Ahead p at (ordinal_member_leaves x ++ rest)
    → Ahead p at (attributes_leaves (out-OrdinalMember x).attributes.items ++ (symbol kind.Number (out-OrdinalMember x).ordinal ++ (symbol kind.Colon (out-OrdinalMember x).colon ++ (ordinal_body_leaves (out-OrdinalMember x).body ++ (symbol kind.Semicolon (out-OrdinalMember x).semicolon ++ rest)))))
ordinal_member_ahead p at x rest a =
    let b = subst (λ l. Ahead p at (l ++ rest)) (ordinal_member_parts x) a in
    simp append_assoc at b

-- what members begin with

abbrev pub starts_member : WordKind → Bool
starts_member kind.At = true
starts_member kind.Identifier = true
starts_member kind.Number = true
starts_member kind.Arrow = true
starts_member _ = false

pub attributes_start : (as' : List Attribute) (ls : List Leaf) → Starts starts_member ls → Starts starts_member (attributes_leaves as' ++ ls)
attributes_start [] ls s = s
attributes_start (x ∷ xs) ls s = refl

pub member_apart : (y : Member) (ls : List Leaf) → Begins kind.RightBrace (member_leaves y ++ ls) → ⊥
member_apart y ls b =
    let tail = name (out-Member y).name ++ (type_leaves (out-Member y).constructor ++ (symbol kind.Semicolon (out-Member y).semicolon ++ ls)) in
    let c = subst (λ l. Begins kind.RightBrace (l ++ ls)) (member_parts y) b in
    starts_other starts_member kind.RightBrace _ refl (attributes_start (out-Member y).attributes.items tail refl) (simp append_assoc at c)

pub ordinal_member_apart : (y : OrdinalMember) (ls : List Leaf) → Begins kind.RightBrace (ordinal_member_leaves y ++ ls) → ⊥
ordinal_member_apart y ls b =
    let tail = symbol kind.Number (out-OrdinalMember y).ordinal ++ (symbol kind.Colon (out-OrdinalMember y).colon ++ (ordinal_body_leaves (out-OrdinalMember y).body ++ (symbol kind.Semicolon (out-OrdinalMember y).semicolon ++ ls))) in
    let c = subst (λ l. Begins kind.RightBrace (l ++ ls)) (ordinal_member_parts y) b in
    starts_other starts_member kind.RightBrace _ refl (attributes_start (out-OrdinalMember y).attributes.items tail refl) (simp append_assoc at c)
