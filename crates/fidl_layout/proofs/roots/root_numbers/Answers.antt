use Rattle.std.proofs.Common.{rules, ◌≡◌, ◌∙◌, ap, sym, arith, true≢false}
use Rattle.std.specs.Prelude.{Some, slice_get}
use Rattle.std.proofs.lemmas.Option.{slice_get-get_or}
use Rattle.fidl_layout.proofs.Found.{with_root, without, root_within}
use Rattle.fidl_layout.proofs.roots.root_numbers.Goals.{then-is_root+in-Ok+in_ok-push, else-is_root}
use Rattle.fidl_layout.proofs.roots.root_numbers.Goals as goal

pub loop-number-preserved : goal.loop-number-preserved
loop-number-preserved c = λ files are zipped.
    let forms = c.args.forms.now in
    let n = c.loop-number.number in
    let form = c.index-forms-number.result in
    let at : slice_get forms n ≡ Some form = slice_get-get_or forms n form c.loop-number-test.true ∙ ap Some (sym c.index-forms-number.is) in
    let decided = c.is_root.ensures files zipped in
    let before = c.loop-number.invariant files are zipped in
    elim c.if-is_root.branch [
      | then-is_root+in-Ok+in_ok-push w ↦ with_root files forms are n form at c.loop-number.found.items before w.in-Ok.number (search (rules, w.in-Ok.ensures, w.in-Ok.is)) (decided.0 w.if-is_root.true) c.if-is_root.found.items (ap (λ v. v.items) w.found-is ∙ w.in_ok-push.ensures.items)
      | else-is_root w ↦ without files forms are n form at c.loop-number.found.items before (λ root. absurd (true≢false (sym (decided.1 root) ∙ w.if-is_root.false))) c.if-is_root.found.items (ap (λ v. v.items) w.found-is)
    ]

pub returns-clause-roots : goal.returns-clause-roots
returns-clause-roots c = λ files are zipped.
    let before = c.loop-number.invariant files are zipped in
    let over = c.loop-number-test.false in
    record {
      sound = before.sound;
      complete = λ i r. before.complete i (let within = root_within files c.args.forms.now are i r in omega (arith, within, over)) r;
    }
