use Rattle.std.proofs.Common.{ap, ◌∙◌}
use Rattle.std.proofs.Math.Logic.{∥∥₁_map, ∥∥₁_elim}
use Rattle.std.proofs.Math.Nat.{ℕ_set}
use Rattle.fidl_wire.specs.Text.{text_of}
use Rattle.fidl_wire.specs.Term.{resolve}
use Rattle.fidl_wire.specs.Term as ty
use Rattle.fidl_table_format.specs.Terms.{declarations_of}
use Rattle.fidl_view.specs.Views.{types_shown}
use Rattle.fidl_streams.proofs.Taking.{takes_as, front_as}
use Rattle.fidl_view.proofs.Whole.{value_shown, not_deep}
use Rattle.fidl_notation.proofs.dumping.dump.Goals as goal

pub write_value-requires-clause-part : goal.write_value-requires-clause-part
write_value-requires-clause-part g c =
    let view = c.args.view.now in
    ∥∥₁_map view.shown (λ h. (
      h.0,
      value_shown view h.0 c.table.result.now c.entry.result c.table.ensures c.entry.ensures.value h.1,
      not_deep view.decoded.now view.index view.place h.0 c.table.result.now c.entry.result c.table.ensures c.entry.ensures.value view.short h.1,
    ))

pub returns-in-Ok-clause-text : goal.returns-in-Ok-clause-text
returns-in-Ok-clause-text g c v shows =
    let view = c.args.view.now in
    takes_as _ _ _ _ (ap (λ b. text_of (declarations_of b) (resolve (declarations_of b).terms (ty.named c.entry.result)) v) c.table.ensures ∙ ap (λ k. text_of (types_shown view) (resolve (types_shown view).terms (ty.named k)) v) c.entry.ensures.value)
    (c.in-Ok.ensures v (value_shown view v c.table.result.now c.entry.result c.table.ensures c.entry.ensures.value shows))

pub returns-in-Err-clause-text : goal.returns-in-Err-clause-text
returns-in-Err-clause-text g c v shows =
    let view = c.args.view.now in
    front_as _ _ _ _ (ap (λ b. text_of (declarations_of b) (resolve (declarations_of b).terms (ty.named c.entry.result)) v) c.table.ensures ∙ ap (λ k. text_of (types_shown view) (resolve (types_shown view).terms (ty.named k)) v) c.entry.ensures.value)
    (c.in-Err.ensures v (value_shown view v c.table.result.now c.entry.result c.table.ensures c.entry.ensures.value shows))

pub returns-in-Ok-clause-failed : goal.returns-in-Ok-clause-failed
returns-in-Ok-clause-failed g c =
    let view = c.args.view.now in
    ∥∥₁_elim view.shown (ℕ_set _ _) (λ h. (c.in-Ok.ensures h.0 (value_shown view h.0 c.table.result.now c.entry.result c.table.ensures c.entry.ensures.value h.1)).failures)

pub returns-in-Err-clause-failed : goal.returns-in-Err-clause-failed
returns-in-Err-clause-failed g c =
    let view = c.args.view.now in
    ∥∥₁_elim view.shown (ℕ_set _ _) (λ h. (c.in-Err.ensures h.0 (value_shown view h.0 c.table.result.now c.entry.result c.table.ensures c.entry.ensures.value h.1)).failures)
