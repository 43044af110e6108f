use Rattle.std.proofs.Common.{sym, ◌∙◌, true≢false}
use Rattle.fidl_tree.specs.Views.{path_view}
use Rattle.fidl_named.proofs.PathViews.{means_seen, refusal_seen}
use Rattle.fidl_consts.proofs.Unmeant.{no_meaning}
use Rattle.fidl_consts.proofs.names.find.Goals as goal

pub returns-in-Ok : goal.returns-in-Ok
returns-in-Ok c = λ f at. let means = means_seen c.args.named.now f c.args.wanted c.args.path.now c.in-Ok.meaning (c.in-Ok.ensures.ok f at) in (means, λ y h. means.1 y h.0)

pub returns-else-is_memory : goal.returns-else-is_memory
returns-else-is_memory c = λ f at.
    no_meaning c.args.named.now f c.args.file_index c.args.wanted (path_view c.args.path.now) c.in-Err.fault
    (refusal_seen c.args.named.now f c.args.file_index c.args.wanted c.args.path.now c.in-Err.fault (c.in-Err.ensures.fault_is_true f at))
    (λ is. true≢false (sym (c.is_memory.ensures.1 is) ∙ c.if-is_memory.false))
