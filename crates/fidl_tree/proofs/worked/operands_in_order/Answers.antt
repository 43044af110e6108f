use Rattle.std.proofs.Common.{rules}
use Rattle.fidl_tree.specs.declared.value.Value as value
use Rattle.fidl_tree.specs.declared.value.Operand as operand
use Rattle.fidl_tree.specs.declared.value.OrOperand as or_operand
use Rattle.fidl_tree.proofs.worked.operands_in_order.Goals as goal

pub returns-clause-seen : goal.returns-clause-seen
returns-clause-seen c p n rest h = search (rules, value.the_lemmas, operand.the_lemmas, or_operand.the_lemmas, h)

pub returns-clause-other : goal.returns-clause-other
returns-clause-other c p n rest h e = let seen = returns-clause-seen c p n rest h in cc
