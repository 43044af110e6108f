use Rattle.std.proofs.Common.{◌≡◌, ◌∙◌, ap, sym, subst}
use Rattle.fidl_protocol.specs.Gathered.{AreGathered, rows_at}
use Rattle.fidl_protocol.proofs.Gathering.{gathered_all}
use Rattle.fidl_protocol.proofs.protocol_list.all_methods.Goals as goal

pub returns-clause-ok : goal.returns-clause-ok
returns-clause-ok c = λ files id known are at.
    let reached = c.in_ok-reached.reached.items in
    let rows = c.args.rows.now in
    let is : c.in_ok-gathered.field-0.items ≡ rows_at rows reached = c.in_ok-gathered.ensures ∙ ap (rows_at rows) c.deref.ensures.value in
    subst (AreGathered files id) (sym is) (gathered_all files c.args.compositions.now known rows are c.args.number id at reached (c.in_ok-reached.ensures.reached files known) c.in_ok-reached.ensures.once)
