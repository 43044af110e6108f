use Rattle.std.proofs.Common.{◌≡◌, ◌++◌, map, drop}
use Rattle.fidl_tree.specs.Leaf.{words, joined}
use Rattle.fidl_tree.specs.Value.{or_operand_leaves}
use Rattle.fidl_tree.proofs.value.+value.Given as goal

-- the words so far and those of the or_operands to come are all words
abbrev pub invariant-push_or_operands-loop-or_operand : goal.invariant-push_or_operands-loop-or_operand
invariant-push_or_operands-loop-or_operand l =
    l.out.items ++ words (joined (map or_operand_leaves (drop l.or_operand-index l.or_operands)))
    ≡ l.fn.out.items ++ words (joined (map or_operand_leaves l.or_operands))
