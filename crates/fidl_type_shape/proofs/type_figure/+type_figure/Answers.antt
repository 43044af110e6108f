use Rattle.std.proofs.Common.{rules}
use Rattle.fidl_ir.specs.Terms.{term_view}
use Rattle.fidl_type_shape.specs.Views.{figures_view}
use Rattle.fidl_type_shape.proofs.Parts.{past_in_array, past_array_of}
use Rattle.fidl_type_shape.proofs.type_figure.+type_figure.Goals as goal

pub returns-in_err-type_figure-in-Array-clause-fault_is_true : goal.returns-in_err-type_figure-in-Array-clause-fault_is_true
returns-in_err-type_figure-in-Array-clause-fault_is_true t c =
    let h = past_in_array (figures_view c.args.figures.now) (term_view c.deref.result.now) c.in-Array.count c.in_err-type_figure-in-Array.field-0.0 c.in_err-type_figure-in-Array.ensures.fault_is_true in
    search (rules, h)

pub returns-in_ok-type_figure-in-Array-clause-fault_is_true : goal.returns-in_ok-type_figure-in-Array-clause-fault_is_true
returns-in_ok-type_figure-in-Array-clause-fault_is_true t c =
    let h = past_array_of (figures_view c.args.figures.now) (term_view c.deref.result.now) c.in-Array.count c.in_ok-type_figure-in-Array.field-0 c.array_figure.result c.in_ok-type_figure-in-Array.ensures.ok c.array_figure.ensures.fault_is_true in
    search (rules, h)
