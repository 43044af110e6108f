use Rattle.std.proofs.Common.{List, subst}
use Rattle.fidl_wire.specs.Figure.{figure_of}
use Rattle.fidl_ir.specs.Terms.{term_view}
use Rattle.fidl_type_shape.specs.declared.figure.Figure.{Figure as Found}
use Rattle.fidl_type_shape.specs.Faults.{HoldsExcess}
use Rattle.fidl_type_shape.specs.Views.{figures_view}
use Rattle.fidl_type_shape.proofs.finding.Figures.check_type.Goals as goal

pub returns-in-Err-clause-fault_is_true : goal.returns-in-Err-clause-fault_is_true
returns-in-Err-clause-fault_is_true c =
    let held = c.in-Err.ensures.fault_is_true in
    let figures = c.deref.result.now in
    subst (λ (fs : List Found). HoldsExcess (figures_view fs) (term_view c.args.of.now) c.excess_of.result) c.deref.ensures.value
    (record { part = held.part; among = held.among; own = held.own; beyond = c.excess_of.ensures (figure_of (figures_view figures) held.part) held.past })
