-- What attributes and their arguments begin with, and how they end.
use Rattle.std.proofs.Common.{ℕ, ◌+◌, List, [], ◌∷◌, ◌++◌, Option, None, Some, append_assoc, refl, inl, inr, subst}
use Rattle.fidl_span.specs.declared.words.WordKind.TheVariants as kind
use Rattle.fidl_tree.specs.Leaf.{Leaf, symbol, optional}
use Rattle.fidl_tree.specs.Value.{value_leaves}
use Rattle.fidl_tree.specs.Attribute.{attribute_leaves, arguments_leaves, argument_list_leaves, next_argument_leaves, argument_leaves, argument_name_leaves}
use Rattle.fidl_tree.specs.declared.attribute.Attribute.{Attribute}
use Rattle.fidl_tree.specs.declared.attribute.Arguments.{Arguments}
use Rattle.fidl_tree.specs.declared.attribute.ArgumentList.{ArgumentList}
use Rattle.fidl_tree.specs.declared.attribute.NextArgument.{NextArgument}
use Rattle.fidl_tree.specs.declared.attribute.Argument.{Argument}
use Rattle.fidl_tree.specs.declared.attribute.ArgumentName.{ArgumentName}
use Rattle.fidl_parse.specs.declared.parser.Parser.{Parser}
use Rattle.fidl_parse.specs.Reading.{IsKindAt}
use Rattle.fidl_parse.specs.Completeness.{Ahead, row}
use Rattle.fidl_parse.specs.FollowSets.{Begins, EndsArgument, NotNamed}
use Rattle.fidl_parse.proofs.Ahead.{step, kind_at, kind_same, none_ahead}
use Rattle.fidl_parse.proofs.Follow.{Starts, starts_other}
use Rattle.fidl_parse.proofs.Values.{starts_value, value_starts}

pub attribute_begins : (y : Attribute) (ls : List Leaf) → Begins kind.At (attribute_leaves y ++ ls)
attribute_begins y ls = refl

pub arguments_begin : (y : Arguments) (ls : List Leaf) → Begins kind.LeftParenthesis (arguments_leaves y ++ ls)
arguments_begin y ls = refl

pub next_argument_begins : (y : NextArgument) (ls : List Leaf) → Begins kind.Comma (next_argument_leaves y ++ ls)
next_argument_begins y ls = refl

argument_starts : (name : Option ArgumentName) (y : Argument) (ls : List Leaf) → Starts starts_value ((optional argument_name_leaves name ++ value_leaves y.value) ++ ls)
argument_starts None y ls = value_starts y.value ls
argument_starts (Some name) y ls = refl

pub list_apart : (y : ArgumentList) (ls : List Leaf) → Begins kind.RightParenthesis (argument_list_leaves y ++ ls) → ⊥
list_apart y ls b =
    starts_other starts_value kind.RightParenthesis _ refl (argument_starts y.first.name y.first (row next_argument_leaves y.rest.items ++ ls))
    (subst (λ l. Begins kind.RightParenthesis l) (append_assoc (argument_leaves y.first) (row next_argument_leaves y.rest.items) ls) b)

pub arguments_ahead : (p : Parser) (at : ℕ) (y : Arguments) (rest : List Leaf) → Ahead p at (arguments_leaves y ++ rest)
    → Ahead p at (symbol kind.LeftParenthesis y.left ++ (optional argument_list_leaves y.list ++ (symbol kind.RightParenthesis y.right ++ rest)))
arguments_ahead p at y rest a = simp append_assoc at a

ends : (ys : List NextArgument) (rest : List Leaf) → Begins kind.RightParenthesis rest → EndsArgument rest
ends ys (l ∷ rest) b = inr b
ends ys [] b = absurd b

-- behind an argument of a list stands the next one or the end
pub arguments_end : (ys : List NextArgument) (rest : List Leaf) → Begins kind.RightParenthesis rest → EndsArgument (row next_argument_leaves ys ++ rest)
arguments_end [] rest b = ends [] rest b
arguments_end (y ∷ ys) rest b = inl refl

-- the name of an argument, where no name and `=` stand
pub named_none : (p : Parser) (at : ℕ) (o : Option ArgumentName) (rest : List Leaf)
    → (IsKindAt p at kind.Identifier × IsKindAt p (at + 1) kind.Equals → ⊥) → Ahead p at (optional argument_name_leaves o ++ rest) → Ahead p at rest
named_none p at None rest n a = a
named_none p at (Some name) rest n a = absurd (n (kind_at p at _ _ a, kind_at p (at + 1) _ _ (step p at _ _ a)))

no_name : (p : Parser) (at : ℕ) (ls : List Leaf) → NotNamed ls → IsKindAt p at kind.Identifier → IsKindAt p (at + 1) kind.Equals → Ahead p at ls → ⊥
no_name p at [] n i e a = none_ahead p at kind.Identifier i a
no_name p at (l ∷ []) n i e a = none_ahead p (at + 1) kind.Equals e (step p at l [] a)
no_name p at (l ∷ m ∷ ls) n i e a = n (kind_same p at kind.Identifier l _ i a) (kind_same p (at + 1) kind.Equals m ls e (step p at l (m ∷ ls) a))

pub named_some : (p : Parser) (at : ℕ) (o : Option ArgumentName) (rest : List Leaf) → NotNamed rest
    → IsKindAt p at kind.Identifier × IsKindAt p (at + 1) kind.Equals → Ahead p at (optional argument_name_leaves o ++ rest)
    → (y : ArgumentName) × Ahead p at (argument_name_leaves y ++ rest)
named_some p at None rest n i a = absurd (no_name p at rest n i.0 i.1 a)
named_some p at (Some name) rest n i a = (name, a)
