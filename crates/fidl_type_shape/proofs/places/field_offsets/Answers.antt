use Rattle.std.proofs.Common.{rules, ◌≤◌, ◌∙◌, ℕ, ap, sym, subst, arith}
use Rattle.std.specs.Int.{next_multiple_of}
use Rattle.fidl_wire.specs.Term as ty
use Rattle.fidl_wire.specs.Figure.{figure_of}
use Rattle.fidl_wire.specs.Figure as wire
use Rattle.fidl_ir.specs.Terms.{fields_view}
use Rattle.fidl_type_shape.specs.Views.{figures_view}
use Rattle.fidl_type_shape.proofs.Fields.{past_within, start_within}
use Rattle.fidl_type_shape.proofs.places.field_offsets.Goals as goal

pub returns-in_err-member-clause-fault_is_true : goal.returns-in_err-member-clause-fault_is_true
returns-in_err-member-clause-fault_is_true c =
    let h = past_within (figures_view c.args.figures.now) c.args.fields.now c.loop-field.field-index c.field-item.result c.loop-field-test.true c.field-item.is c.in_err-member.field-0.0 c.in_err-member.ensures.fault_is_true in
    search (rules, h)

pub overflow_cast-start : goal.overflow_cast-start
overflow_cast-start c =
    let figures = figures_view c.args.figures.now in
    let end = c.loop-field.end in
    let near = start_within figures c.args.fields.now c.loop-field.field-index c.field-item.result end c.loop-field-test.true c.field-item.is c.loop-field.invariant.ends in
    let place = c.member_start-start.ensures.place ∙ ap (λ (f : wire.Figure). next_multiple_of end f.align) c.in_ok-member.ensures.ok in
    let below = subst (λ (n : ℕ). n ≤ (figure_of figures (ty.struct (fields_view c.args.fields.now))).size) (sym place) near in
    omega (arith, below, c.requires.small)
