-- The constraints of a type (docs/language.md, "Grammar").
use Rattle.std.specs.Prelude.{List, ◌++◌, map}
use Rattle.fidl_span.specs.declared.words.WordKind.TheVariants as kind
use Rattle.fidl_tree.specs.Leaf.{Leaf, symbol, joined}
use Rattle.fidl_tree.specs.Value.{value_leaves}
use Rattle.fidl_tree.specs.declared.constraint.Constraints.{Constraints}
use Rattle.fidl_tree.specs.declared.constraint.Constraints.TheVariants as constraints
use Rattle.fidl_tree.specs.declared.constraint.NextConstraint.{NextConstraint}

-- next_constraint = "," value
abbrev pub next_constraint_leaves : NextConstraint → List Leaf
next_constraint_leaves n = symbol kind.Comma n.comma ++ value_leaves n.value

-- constraints = ":" value | ":" "<" value { next_constraint } ">"
abbrev pub constraints_leaves : Constraints → List Leaf
constraints_leaves (constraints.Single colon value) = symbol kind.Colon colon
    ++ value_leaves value.value
constraints_leaves (constraints.List colon less first rest greater) =
    symbol kind.Colon colon ++ symbol kind.Less less ++ value_leaves first.value
    ++ joined (map next_constraint_leaves rest.items) ++ symbol kind.Greater greater
