use Rattle.std.proofs.Common.{◌≡◌, ◌+◌, ◌-◌, ◌∙◌, length, drop, ap, sym, arith}
use Rattle.fidl_ir.specs.Terms.{term_view}
use Rattle.fidl_lower_types.specs.TermViews.{made_of_all}
use Rattle.fidl_lower_types.proofs.Descending.{all_start, all_step}
use Rattle.fidl_lower_types.proofs.terms.made_of_all.Goals as goal

pub loop-behind-init : goal.loop-behind-init
loop-behind-init c =
    let ss = c.args.shapes.now in
    sym (all_start ss (length ss - 0) (term_view c.args.of) (omega arith))

pub loop-behind-preserved : goal.loop-behind-preserved
loop-behind-preserved c =
    let ss = c.args.shapes.now in
    let i = c.loop-behind.behind in
    let lt = c.loop-behind-test.true in
    let e = term_view c.args.of in
    let step = all_step ss (length ss - 1 - i) (length ss - i) c.from_end-shape.result e (term_view c.loop-behind.made) (omega (arith, lt)) (omega (arith, lt)) c.from_end-shape.ensures c.loop-behind.invariant in
    let same : length ss - 1 - i ≡ length ss - (i + 1) = omega arith in
    c.in_ok-next.ensures ∙ (step ∙ ap (λ n. made_of_all (drop n ss) e) same)

pub returns : goal.returns
returns c =
    let ss = c.args.shapes.now in
    let done = c.loop-behind-test.false in
    let none : length ss - c.loop-behind.behind ≡ 0 = omega (arith, done) in
    c.loop-behind.invariant ∙ ap (λ n. made_of_all (drop n ss) (term_view c.args.of)) none
