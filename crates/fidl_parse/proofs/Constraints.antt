-- What constraints begin with, and which of the two forms stands ahead.
use Rattle.std.proofs.Common.{Box, Vec, Global, ◌≡◌, ℕ, ◌+◌, List, ◌++◌, append_assoc, refl, sym, subst}
use Rattle.fidl_span.specs.declared.words.Span.{Span}
use Rattle.fidl_span.specs.declared.words.WordKind.TheVariants as kind
use Rattle.fidl_tree.specs.Leaf.{Leaf, symbol}
use Rattle.fidl_tree.specs.Value.{value_leaves}
use Rattle.fidl_tree.specs.Constraint.{constraints_leaves, next_constraint_leaves}
use Rattle.fidl_tree.specs.declared.value.Value.{Value}
use Rattle.fidl_tree.specs.declared.constraint.Constraints.{Constraints}
use Rattle.fidl_tree.specs.declared.constraint.Constraints.TheVariants as constraints
use Rattle.fidl_tree.specs.declared.constraint.NextConstraint.{NextConstraint}
use Rattle.fidl_parse.specs.declared.parser.Parser.{Parser}
use Rattle.fidl_parse.specs.Reading.{Reads, IsKindAt}
use Rattle.fidl_parse.specs.Completeness.{Ahead, row}
use Rattle.fidl_parse.specs.FollowSets.{Begins}
use Rattle.fidl_parse.proofs.Ahead.{step, kind_at, begins}
use Rattle.fidl_parse.proofs.Follow.{starts_other}
use Rattle.fidl_parse.proofs.Joins.{reads_join}
use Rattle.fidl_parse.proofs.Values.{starts_value, value_starts}

pub constraints_begin : (y : Constraints) (ls : List Leaf) → Begins kind.Colon (constraints_leaves y ++ ls)
constraints_begin (constraints.Single colon value) ls = refl
constraints_begin (constraints.List colon less first more greater) ls = refl

pub next_constraint_begins : (y : NextConstraint) (ls : List Leaf) → Begins kind.Comma (next_constraint_leaves y ++ ls)
next_constraint_begins y ls = refl

pub single_ahead : (p : Parser) (at : ℕ) (y : Constraints) (rest : List Leaf) → (IsKindAt p (at + 1) kind.Less → ⊥) → Ahead p at (constraints_leaves y ++ rest)
    → (colon : Span) × (value : Value) × Ahead p at (symbol kind.Colon colon ++ (value_leaves value ++ rest))
single_ahead p at (constraints.Single colon value) rest n a = (colon, value.value, a)
single_ahead p at (constraints.List colon less first more greater) rest n a = absurd (n (kind_at p (at + 1) _ _ (step p at _ _ a)))

pub list_ahead : (p : Parser) (at : ℕ) (y : Constraints) (rest : List Leaf) → IsKindAt p (at + 1) kind.Less → Ahead p at (constraints_leaves y ++ rest)
    → (colon : Span) × (less : Span) × (first : Value) × (more : List NextConstraint) × (greater : Span)
    × Ahead p at (symbol kind.Colon colon ++ (symbol kind.Less less ++ (value_leaves first ++ (row next_constraint_leaves more ++ (symbol kind.Greater greater ++ rest)))))
list_ahead p at (constraints.Single colon value) rest i a =
    absurd (starts_other starts_value kind.Less (value_leaves value.value ++ rest) refl (value_starts value.value rest) (begins p (at + 1) kind.Less _ i (step p at _ _ a)))
list_ahead p at (constraints.List colon less first more greater) rest i a = (colon, less, first.value, more.items, greater, simp append_assoc at a)

pub single_reads : (p : Parser) (a b c : ℕ) (colon : Span) (inner : Value) (value : Box Value Global) → value.value ≡ inner
    → Reads p a b (symbol kind.Colon colon) → Reads p b c (value_leaves inner) → Reads p a c (constraints_leaves (constraints.Single colon value))
single_reads p a b c colon inner value e r s = reads_join p a b c (symbol kind.Colon colon) (value_leaves value.value) r (subst (λ v. Reads p b c (value_leaves v)) (sym e) s)

pub list_reads : (p : Parser) (a b c d e f : ℕ) (colon less : Span) (inner : Value) (first : Box Value Global) (more : Vec NextConstraint Global) (greater : Span) → first.value ≡ inner
    → Reads p a b (symbol kind.Colon colon) → Reads p b c (symbol kind.Less less) → Reads p c d (value_leaves inner) → Reads p d e (row next_constraint_leaves more.items)
    → Reads p e f (symbol kind.Greater greater) → Reads p a f (constraints_leaves (constraints.List colon less first more greater))
list_reads p a b c d e f colon less inner first more greater same r s t u v =
    let front = reads_join p a c d (symbol kind.Colon colon ++ symbol kind.Less less) (value_leaves first.value) (reads_join p a b c (symbol kind.Colon colon) (symbol kind.Less less) r s)
    (subst (λ w. Reads p c d (value_leaves w)) (sym same) t) in
    reads_join p a e f _ (symbol kind.Greater greater) (reads_join p a d e _ (row next_constraint_leaves more.items) front u) v
