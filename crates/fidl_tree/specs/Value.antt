-- Values (docs/language.md, "Grammar"). Since values and operands hold one another, a step says
-- which leaves one level has, with the leaves of each part in its place, and the leaves of a whole
-- value are those by all steps together.
use Rattle.std.specs.Prelude.{ℕ, List, [], ◌∷◌, ◌++◌, codes}
use Rattle.fidl_span.specs.declared.words.WordKind.TheVariants as kind
use Rattle.fidl_tree.specs.Leaf.{Leaf, none_of, symbol, keyword, optional, joined}
use Rattle.fidl_tree.specs.Path.{path_from}
use Rattle.fidl_tree.specs.declared.value.Value.{Value}
use Rattle.fidl_tree.specs.declared.value.OrOperand.{OrOperand}
use Rattle.fidl_tree.specs.declared.value.Operand.{Operand}
use Rattle.fidl_tree.specs.declared.value.Operand.TheOpen.{Value-F, OrOperand-F, Operand-F}
use Rattle.fidl_tree.specs.declared.value.Operand.TheFolds.{fold-Value, fold-OrOperand}
use Rattle.fidl_tree.specs.declared.value.Operand.TheFolds.{fold-Operand}

abbrev Leaves : Type 0
Leaves = List Leaf

-- Literals: where an operand may begin these are literals, so a path in a value does not begin with
-- them.
abbrev literals : List (List ℕ)
literals = codes "true" ∷ codes "false" ∷ []

-- value = operand { or_operand }
abbrev value_step : Value-F Leaves Leaves Leaves → Leaves
value_step v = v.first ++ joined v.rest.items

-- or_operand = "|" operand
abbrev or_operand_step : OrOperand-F Leaves Leaves Leaves → Leaves
or_operand_step o = symbol kind.Bar o.bar ++ o.operand

-- operand = ["-"] number | string | "true" | "false" | path | "(" value ")"
abbrev operand_step : Operand-F Leaves Leaves Leaves → Leaves
operand_step (Operand-F.Number minus number) = optional (symbol kind.Minus) minus
    ++ symbol kind.Number number
operand_step (Operand-F.String s) = symbol kind.String s
operand_step (Operand-F.True s) = keyword (codes "true") s
operand_step (Operand-F.False s) = keyword (codes "false") s
operand_step (Operand-F.Path p) = path_from (none_of literals) p
operand_step (Operand-F.Group left value right) =
    symbol kind.LeftParenthesis left ++ value.value ++ symbol kind.RightParenthesis right

abbrev pub value_leaves : Value → List Leaf
value_leaves = fold-Value Leaves Leaves Leaves operand_step or_operand_step value_step

abbrev pub or_operand_leaves : OrOperand → List Leaf
or_operand_leaves = fold-OrOperand Leaves Leaves Leaves operand_step or_operand_step value_step

abbrev pub operand_leaves : Operand → List Leaf
operand_leaves = fold-Operand Leaves Leaves Leaves operand_step or_operand_step value_step
