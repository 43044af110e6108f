use Rattle.std.proofs.Common.{◌∙◌, Some, sym, true≢false}
use Rattle.fidl_tree.specs.Views.{path_view}
use Rattle.fidl_consts.proofs.Unmeant.{no_item_unless}
use Rattle.fidl_consts.proofs.constraints.item_meaning.Goals as goal

pub returns-else-is_memory-clause-none : goal.returns-else-is_memory-clause-none
returns-else-is_memory-clause-none c = λ f at _ m h.
    no_item_unless c.args.named.now f c.args.file_index (Some c.args.end) c.args.rank (path_view c.args.path.now) c.in-Err.fault (c.in-Err.ensures.fault_is_true f at)
    (λ is. true≢false (sym (c.is_memory.ensures.1 is) ∙ c.if-is_memory.false)) m h
