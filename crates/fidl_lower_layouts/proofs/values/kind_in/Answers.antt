use Rattle.std.proofs.Common.{◌∙◌, sym, true≢false}
use Rattle.fidl_lower_layouts.proofs.ValueKinds.{no_kind}
use Rattle.fidl_lower_layouts.proofs.values.kind_in.Goals as goal

pub returns-else-is_memory-clause-none : goal.returns-else-is_memory-clause-none
returns-else-is_memory-clause-none c = λ _.
    no_kind c.args.scope.sources.now.named.now c.args.scope.file.now c.args.layout.now c.args.scope.file_index c.requires c.in-Err.fault c.in-Err.ensures.fault_is_true
    (λ is. true≢false (sym (c.is_memory.ensures.1 is) ∙ c.if-is_memory.false))
