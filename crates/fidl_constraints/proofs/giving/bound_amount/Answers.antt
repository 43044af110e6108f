use Rattle.std.proofs.Common.{◌∙◌, sym, true≢false}
use Rattle.fidl_tree.specs.Views.{value_view}
use Rattle.fidl_constraints.proofs.Amounts.{bound_found, bound_none, bound_refused}
use Rattle.fidl_constraints.proofs.giving.bound_amount.Goals as goal

pub returns-in-Ok-clause-found : goal.returns-in-Ok-clause-found
returns-in-Ok-clause-found c =
    bound_found c.args.scope.named.now c.args.item.file_index (value_view c.args.item.value.now) c.in-Ok.value c.amount_of.result c.requires.within c.in-Ok.ensures.ok c.amount_of.ensures.found

pub returns-in-Ok-clause-none : goal.returns-in-Ok-clause-none
returns-in-Ok-clause-none c =
    bound_none c.args.scope.named.now c.args.item.file_index (value_view c.args.item.value.now) c.in-Ok.value c.amount_of.result c.in-Ok.ensures.ok c.amount_of.ensures.none

pub returns-else-is_memory-clause-none : goal.returns-else-is_memory-clause-none
returns-else-is_memory-clause-none c = λ _.
    bound_refused c.args.scope.named.now c.args.item.file_index (value_view c.args.item.value.now) c.in-Err.fault c.in-Err.ensures.fault_is_true
    (λ is. true≢false (sym (c.is_memory.ensures.1 is) ∙ c.if-is_memory.false))
