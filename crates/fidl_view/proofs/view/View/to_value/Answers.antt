use Rattle.std.proofs.Math.Logic.{∥∥₁_map}
use Rattle.fidl_view.proofs.Whole.{value_shown, not_deep}
use Rattle.fidl_view.proofs.view.View.to_value.Goals as goal

pub value_tree-requires-clause-part : goal.value_tree-requires-clause-part
value_tree-requires-clause-part c =
    let view = c.args.self in
    ∥∥₁_map view.shown (λ h. (
      h.0,
      value_shown view h.0 c.table.result.now c.entry.result c.table.ensures c.entry.ensures.value h.1,
      not_deep view.decoded.now view.index view.place h.0 c.table.result.now c.entry.result c.table.ensures c.entry.ensures.value view.short h.1,
    ))

pub returns : goal.returns
returns c v shows = c.value_tree.ensures v (value_shown c.args.self v c.table.result.now c.entry.result c.table.ensures c.entry.ensures.value shows)
