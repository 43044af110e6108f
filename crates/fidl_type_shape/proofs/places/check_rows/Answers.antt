use Rattle.std.proofs.Common.{rules}
use Rattle.fidl_wire.specs.Term.{Term}
use Rattle.fidl_wire.specs.Figure.{figure_of}
use Rattle.fidl_type_shape.specs.Limits.{IsWithin}
use Rattle.fidl_type_shape.specs.Views.{figures_view}
use Rattle.fidl_type_shape.proofs.Flat.{past_in_rows, rows_more}
use Rattle.fidl_type_shape.proofs.places.check_rows.Goals as goal

pub returns-in_err-check_type-clause-fault_is_true : goal.returns-in_err-check_type-clause-fault_is_true
returns-in_err-check_type-clause-fault_is_true c =
    let h = past_in_rows (figures_view c.args.figures.now) c.args.rows.now c.loop-row.row-index c.row-item.result c.loop-row-test.true c.row-item.is c.in_err-check_type.field-0.0 c.in_err-check_type.ensures.fault_is_true in
    search (rules, h)

pub loop-row-preserved : goal.loop-row-preserved
loop-row-preserved c = rows_more (λ (t : Term). IsWithin (figure_of (figures_view c.args.figures.now) t)) c.args.rows.now c.loop-row.row-index c.row-item.result c.loop-row-test.true c.row-item.is c.loop-row.invariant c.in_ok-check_type.ensures.ok
