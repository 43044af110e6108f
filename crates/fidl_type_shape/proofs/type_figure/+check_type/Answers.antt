use Rattle.std.proofs.Common.{rules}
use Rattle.fidl_wire.specs.Term as ty
use Rattle.fidl_ir.specs.Terms.{term_view}
use Rattle.fidl_type_shape.specs.Limits.{parts}
use Rattle.fidl_type_shape.specs.Views.{figures_view}
use Rattle.fidl_type_shape.proofs.Parts.{past_below}
use Rattle.fidl_type_shape.proofs.type_figure.+check_type.Goals as goal

pub returns-in-Vector-clause-fault_is_true : goal.returns-in-Vector-clause-fault_is_true
returns-in-Vector-clause-fault_is_true t c =
    let element = term_view c.deref.result.now in
    let h = past_below (figures_view c.args.figures.now) (ty.vector c.in-Vector.optional c.in-Vector.bound element) (parts element) c.check_type.result c.check_type.ensures.fault_is_true in
    search (rules, h)

pub returns-in_ok-type_figure-in-Array-clause-fault_is_true : goal.returns-in_ok-type_figure-in-Array-clause-fault_is_true
returns-in_ok-type_figure-in-Array-clause-fault_is_true t c =
    let element = term_view c.deref-in-Array.result.now in
    let h = past_below (figures_view c.args.figures.now) (ty.array element c.in-Array.count) (parts element) c.check_type-in-Array.result c.check_type-in-Array.ensures.fault_is_true in
    search (rules, h)
