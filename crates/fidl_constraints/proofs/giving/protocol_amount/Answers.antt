use Rattle.std.proofs.Common.{◌∙◌, refl, sym, true≢false}
use Rattle.fidl_tree.specs.Views.{value_view}
use Rattle.fidl_constraints.proofs.Protocols.{names_protocol, names_none}
use Rattle.fidl_constraints.proofs.giving.protocol_amount.Goals as goal

pub returns-in-Ok-clause-found : goal.returns-in-Ok-clause-found
returns-in-Ok-clause-found c =
    (names_protocol c.args.scope.named.now c.args.item.file_index (value_view c.args.item.value.now) c.in-Some.path.now (sym c.in-Some.ensures) c.in-Ok.field-0 c.requires.within c.in-Ok.ensures.ok, refl)

pub returns-else-is_memory-clause-none : goal.returns-else-is_memory-clause-none
returns-else-is_memory-clause-none c = λ _ n h.
    names_none c.args.scope.named.now c.args.item.file_index (value_view c.args.item.value.now) c.in-Some.path.now (sym c.in-Some.ensures) c.in-Err.fault c.in-Err.ensures.fault_is_true
    (λ is. true≢false (sym (c.is_memory.ensures.1 is) ∙ c.if-is_memory.false)) h.0
