use Rattle.std.proofs.Common.{◌∙◌, refl, sym, true≢false}
use Rattle.fidl_tree.specs.Views.{value_view}
use Rattle.fidl_constraints.proofs.Amounts.{property_found, property_none, no_property, property_refused}
use Rattle.fidl_constraints.proofs.giving.property_amount.Goals as goal

pub returns-in-Ok-None-clause-none : goal.returns-in-Ok-None-clause-none
returns-in-Ok-None-clause-none c = λ _.
    no_property c.args.scope.named.now c.args.item.file_index (value_view c.args.item.value.now) c.args.id c.args.item.rank (rw c.in-Ok-None.field-0-is at c.in-Ok-None.ensures.none refl)

pub returns-in-Ok-Some-clause-found : goal.returns-in-Ok-Some-clause-found
returns-in-Ok-Some-clause-found c =
    property_found c.args.scope.named.now c.args.item.file_index (value_view c.args.item.value.now) c.args.id c.args.item.rank c.in-Ok-Some.value c.amount_of.result c.requires.within (rw c.in-Ok-Some.field-0-is at c.in-Ok-Some.ensures.found) c.amount_of.ensures.found

pub returns-in-Ok-Some-clause-none : goal.returns-in-Ok-Some-clause-none
returns-in-Ok-Some-clause-none c =
    property_none c.args.scope.named.now c.args.item.file_index (value_view c.args.item.value.now) c.args.id c.args.item.rank c.in-Ok-Some.value c.amount_of.result (rw c.in-Ok-Some.field-0-is at c.in-Ok-Some.ensures.found) c.amount_of.ensures.none

pub returns-else-is_memory-clause-none : goal.returns-else-is_memory-clause-none
returns-else-is_memory-clause-none c = λ _.
    property_refused c.args.scope.named.now c.args.item.file_index (value_view c.args.item.value.now) c.args.id c.args.item.rank c.in-Err.fault c.in-Err.ensures.fault_is_true
    (λ is. true≢false (sym (c.is_memory.ensures.1 is) ∙ c.if-is_memory.false))
