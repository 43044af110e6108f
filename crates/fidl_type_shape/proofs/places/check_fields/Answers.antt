use Rattle.std.proofs.Common.{rules}
use Rattle.fidl_wire.specs.Term.{Term}
use Rattle.fidl_wire.specs.Figure.{figure_of}
use Rattle.fidl_type_shape.specs.Limits.{IsWithin}
use Rattle.fidl_type_shape.specs.Views.{figures_view}
use Rattle.fidl_type_shape.proofs.Flat.{past_in_fields, fields_more}
use Rattle.fidl_type_shape.proofs.places.check_fields.Goals as goal

pub returns-in_err-check_type-clause-fault_is_true : goal.returns-in_err-check_type-clause-fault_is_true
returns-in_err-check_type-clause-fault_is_true c =
    let h = past_in_fields (figures_view c.args.figures.now) c.args.fields.now c.loop-field.field-index c.field-item.result c.loop-field-test.true c.field-item.is c.in_err-check_type.field-0.0 c.in_err-check_type.ensures.fault_is_true in
    search (rules, h)

pub loop-field-preserved : goal.loop-field-preserved
loop-field-preserved c = fields_more (λ (t : Term). IsWithin (figure_of (figures_view c.args.figures.now) t)) c.args.fields.now c.loop-field.field-index c.field-item.result c.loop-field-test.true c.field-item.is c.loop-field.invariant c.in_ok-check_type.ensures.ok
