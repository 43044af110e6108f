use Rattle.std.proofs.Common.{rules, ◌≡◌, drop, max, [], refl, ap, sym, ◌∙◌, arith}
use Rattle.std.proofs.lemmas.List.{drop_all}
use Rattle.fidl_wire.specs.Figure.{end_of, align_of, nest_of}
use Rattle.fidl_ir.specs.declared.term.Field.{Field}
use Rattle.std.specs.Prelude.{List}
use Rattle.fidl_ir.specs.Terms.{fields_view}
use Rattle.fidl_type_shape.specs.Views.{figures_view}
use Rattle.fidl_type_shape.proofs.Fields.{aligned_one, past_in_struct, past_struct}
use Rattle.fidl_type_shape.proofs.definition_figure.fields_figure.Goals as goal

pub loop-field-init : goal.loop-field-init
loop-field-init c = record {
  ends = refl;
  aligns = aligned_one (figures_view c.args.figures.now) (fields_view c.args.fields.now);
  nests = omega arith;
  near = omega arith;
  aligned = omega arith;
  narrow = omega arith;
  shallow = omega arith;
}

pub returns-in_err-member-clause-fault_is_true : goal.returns-in_err-member-clause-fault_is_true
returns-in_err-member-clause-fault_is_true c =
    let h = past_in_struct (figures_view c.args.figures.now) c.args.fields.now c.loop-field.field-index c.field-item.result c.loop-field-test.true c.field-item.is c.in_err-member.field-0.0 c.in_err-member.ensures.fault_is_true in
    search (rules, h)

pub returns-clause-fault_is_true : goal.returns-clause-fault_is_true
returns-clause-fault_is_true c =
    let figures = figures_view c.args.figures.now in
    let fields = c.args.fields.now in
    let none : drop c.loop-field.field-index fields ≡ [] = drop_all c.loop-field.field-index fields (omega (arith, c.loop-field-test.false)) in
    let end = sym (ap (λ (fs : List Field). end_of figures c.loop-field.end (fields_view fs)) none) ∙ c.loop-field.invariant.ends in
    let one : max c.loop-field.align 1 ≡ c.loop-field.align = omega (arith, c.loop-field.invariant.aligned) in
    let align = sym one ∙ sym (ap (λ (fs : List Field). max c.loop-field.align (align_of figures (fields_view fs))) none) ∙ c.loop-field.invariant.aligns in
    let zero : max c.loop-field.nest 0 ≡ c.loop-field.nest = omega arith in
    let nest = sym zero ∙ sym (ap (λ (fs : List Field). max c.loop-field.nest (nest_of figures (fields_view fs))) none) ∙ c.loop-field.invariant.nests in
    past_struct figures (fields_view fields) c.loop-field.end c.loop-field.align c.loop-field.nest end align nest c.closed_struct.result c.closed_struct.ensures.fault_is_true
