use Rattle.std.proofs.Common.{◌∙◌, sym, true≢false}
use Rattle.fidl_tree.specs.Views.{value_member_view}
use Rattle.fidl_member_rules.proofs.Values.{found_number, no_number, no_value_of}
use Rattle.fidl_member_rules.proofs.numbers.number_of.Goals as goal

pub returns-in-Ok-clause-found : goal.returns-in-Ok-clause-found
returns-in-Ok-clause-found c =
    found_number c.args.scope.named.now c.args.scope.file_index c.args.scope.file.now c.requires.at c.args.kind (value_member_view c.args.member.now) c.in-Ok.value c.in-Ok.ensures.ok c.whole_number.result c.whole_number.ensures.found

pub returns-in-Ok-clause-none : goal.returns-in-Ok-clause-none
returns-in-Ok-clause-none c = λ none.
    no_number c.args.scope.named.now c.args.scope.file_index c.args.scope.file.now c.requires.at c.args.kind (value_member_view c.args.member.now) c.in-Ok.value c.in-Ok.ensures.ok (c.whole_number.ensures.none none)

pub returns-else-is_memory-clause-none : goal.returns-else-is_memory-clause-none
returns-else-is_memory-clause-none c = λ _.
    no_value_of c.args.scope.named.now c.args.scope.file_index c.args.scope.file.now c.requires.at c.args.kind (value_member_view c.args.member.now) c.in-Err.fault c.in-Err.ensures.fault_is_true
    (λ is. true≢false (sym (c.is_memory.ensures.1 is) ∙ c.if-is_memory.false))
