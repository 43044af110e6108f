use Rattle.std.proofs.Common.{List, subst, arith}
use Rattle.std.specs.List.{Contains}
use Rattle.fidl_wire.specs.Term.{Term}
use Rattle.fidl_wire.specs.Figure.{Figure, figure_of}
use Rattle.fidl_type_shape.specs.declared.fault.Refusal.{Refusal}
use Rattle.fidl_type_shape.specs.declared.fault.Refusal.TheVariants.{Nest, Size, Members, Memory}
use Rattle.fidl_type_shape.specs.Limits.{IsWithin, parts}
use Rattle.fidl_ir.specs.Terms.{term_view}
use Rattle.fidl_type_shape.specs.declared.figure.Figure.{Figure as Found}
use Rattle.fidl_type_shape.specs.Views.{figures_view}
use Rattle.fidl_type_shape.specs.Excesses.{IsPast}
use Rattle.fidl_type_shape.proofs.finding.Figures.of_type.Goals as goal

past : (refusal : Refusal) (f : Figure) → IsPast refusal f → IsWithin f → ⊥
past Nest f h within = omega (arith, h, within.shallow)
past Size f h within = omega (arith, h, within.small)
past Members f h within = h
past Memory f h within = h

pub returns-in-Err-clause-none : goal.returns-in-Err-clause-none
returns-in-Err-clause-none c = λ _.
    let held = c.in-Err.ensures.fault_is_true in
    subst (λ (fs : List Found). (part : Term) × Contains (parts (term_view c.args.of.now)) part × (IsWithin (figure_of (figures_view fs) part) → ⊥)) c.deref.ensures.value
    (held.part, held.among, past c.in-Err.field-0 (figure_of (figures_view c.deref.result.now) held.part) held.past)
