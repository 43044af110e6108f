use Rattle.std.proofs.Common.{◌≡◌, ◌∙◌, ℕ, ◌∷◌, [], Bool, List, length, get_or, length-append, ap, arith}
use Rattle.std.proofs.lemmas.List.{get_or_default}
use Rattle.fidl_ir_rules.specs.declared.mark.Mark.{Mark}
use Rattle.fidl_ir_rules.specs.declared.mark.Mark.TheVariants as Marks
use Rattle.fidl_wire.specs.Term.{nothing}
use Rattle.fidl_ir.specs.Terms.{definitions_view}
use Rattle.fidl_ir_rules.specs.Resources.{is_resource, is_resource_by, mark_of}
use Rattle.fidl_ir_rules.specs.Flags.{is_flagged}
use Rattle.fidl_ir_rules.proofs.Flagged.{flags_more, marks_flagged}
use Rattle.fidl_ir_rules.proofs.resources.resource_flags.Goals as goal

pub loop-number-preserved : goal.loop-number-preserved
loop-number-preserved c =
    let terms = definitions_view c.args.definitions.now in
    let marks = c.args.marks.now in
    let n = c.loop-number.number in
    let flags = c.loop-number.flags.items in
    let x = c.is_resource.result in
    let flagged = ap (λ (fs : List Bool). is_flagged fs) c.deref.ensures.value ∙ marks_flagged marks c.in_ok-marked.marked.items c.in_ok-marked.ensures in
    let this : x ≡ is_resource terms marks n = c.is_resource.ensures ∙ ap (λ (m : Mark). is_resource_by (is_flagged c.deref.result.now) m (get_or terms n nothing)) (get_or_default marks n Marks.Resource Marks.Value c.loop-number-test.true) ∙ ap (λ (p : ℕ → Bool). is_resource_by p (mark_of marks n) (get_or terms n nothing)) flagged in
    record {
      long = ap length c.in_ok-push.ensures.items ∙ omega (arith, length-append flags (x ∷ []), c.loop-number.invariant.long);
      right = λ i less. ap (λ (fs : List Bool). is_flagged fs i) c.in_ok-push.ensures.items ∙ flags_more flags x n c.loop-number.invariant.long (is_resource terms marks) c.loop-number.invariant.right this i less;
    }
