use Rattle.std.proofs.Common.{map, drop}
use Rattle.fidl_tree.specs.Views.{or_operand_view}
use Rattle.fidl_consts.specs.PlainValues.{PlainValue, seen}
use Rattle.fidl_consts.specs.Values.{OrOperandsAre}
use Rattle.fidl_consts.proofs.values.+values.Given as goal

-- what the operands to come join this value to, all operands join the first one to
abbrev pub invariant-or_operands_value-loop-or_operand : goal.invariant-or_operands_value-loop-or_operand
invariant-or_operands_value-loop-or_operand l =
    (all : PlainValue) → OrOperandsAre l.scope.file.named.now l.scope.file.tree.now l.wanted (seen l.all) (drop l.or_operand-index (map or_operand_view l.or_operands)) all
    → OrOperandsAre l.scope.file.named.now l.scope.file.tree.now l.wanted (seen l.fn.before) (map or_operand_view l.or_operands) all
