use Rattle.std.proofs.Common.{◌++◌, ◌∷◌, [], Option, None, ap, ◌∙◌}
use Rattle.std.proofs.lemmas.List.{replicate_more}
use Rattle.fidl_consts.specs.declared.consts.Entry.{Entry}
use Rattle.fidl_const.proofs.order.no_values.Goals as goal

pub loop-preserved : goal.loop-preserved
loop-preserved c = c.in_ok-push.ensures.items ∙ ap (λ l. l ++ None ∷ []) c.loop.invariant ∙ replicate_more {X = Option Entry} c.loop.counter None
