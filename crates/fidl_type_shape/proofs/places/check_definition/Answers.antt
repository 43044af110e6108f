use Rattle.std.proofs.Common.{rules}
use Rattle.fidl_wire.specs.Term as ty
use Rattle.fidl_ir.specs.Terms.{fields_view, rows_view}
use Rattle.fidl_type_shape.specs.Limits.{parts_of_fields, parts_of_rows}
use Rattle.fidl_type_shape.specs.Views.{figures_view}
use Rattle.fidl_type_shape.proofs.Parts.{past_below}
use Rattle.fidl_type_shape.proofs.places.check_definition.Goals as goal

pub returns-in-Struct-clause-fault_is_true : goal.returns-in-Struct-clause-fault_is_true
returns-in-Struct-clause-fault_is_true c =
    let fields = fields_view c.deref.result.now in
    let h = past_below (figures_view c.args.figures.now) (ty.struct fields) (parts_of_fields fields) c.check_fields.result c.check_fields.ensures.fault_is_true in
    search (rules, h)

pub returns-in-Table-clause-fault_is_true : goal.returns-in-Table-clause-fault_is_true
returns-in-Table-clause-fault_is_true c =
    let rows = rows_view c.deref-in-Table.result.now in
    let h = past_below (figures_view c.args.figures.now) (ty.table rows) (parts_of_rows rows) c.check_rows.result c.check_rows.ensures.fault_is_true in
    search (rules, h)

pub returns-in-Union-clause-fault_is_true : goal.returns-in-Union-clause-fault_is_true
returns-in-Union-clause-fault_is_true c =
    let rows = rows_view c.deref-in-Union.result.now in
    let h = past_below (figures_view c.args.figures.now) (ty.union c.in-Union.optional c.in-Union.strict rows) (parts_of_rows rows) c.check_rows-in-Union.result c.check_rows-in-Union.ensures.fault_is_true in
    search (rules, h)
