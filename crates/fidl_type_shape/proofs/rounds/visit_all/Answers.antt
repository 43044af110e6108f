use Rattle.std.proofs.Common.{rules, ◌<◌, length, arith}
use Rattle.std.proofs.Math.ListN.{length-map}
use Rattle.fidl_ir.specs.Terms.{definition_view, definitions_view}
use Rattle.fidl_type_shape.specs.Views.{figure_view, figures_view}
use Rattle.fidl_type_shape.proofs.Visits.{further, waiting, unknown_within, definition_is, refused}
use Rattle.fidl_type_shape.proofs.rounds.visit_all.Goals as goal

pub loop-number-preserved : goal.loop-number-preserved
loop-number-preserved c =
    let terms = definitions_view c.args.definitions.now in
    let figures = c.loop-number.figures in
    let i = c.loop-number.number in
    let here : i < length (figures_view figures) = omega (arith, c.loop-number-test.true, c.loop-number.auto.figures, c.requires.figures, length-map figures figure_view) in
    let there : i < length c.loop-number.known = omega (arith, c.loop-number-test.true, c.loop-number.auto.known, c.requires.marks) in
    let d = c.index-definitions-number.result in
    let step = further terms (figures_view figures) c.loop-number.known c.loop-number.invariant.right i here there (definition_view d) (definition_is c.args.definitions.now i d c.loop-number-test.true c.index-definitions-number.is) (figures_view c.visit.new.figures) c.visit.new.known c.in_default.ensures.ok in
    record {
      right = step.right;
      grows = λ j h. step.grows j (c.loop-number.invariant.grows j h);
      wait = waiting terms c.args.known.now c.loop-number.known i (figures_view c.visit.new.figures) c.visit.new.known step c.loop-number.invariant.grows c.loop-number.invariant.wait;
    }

pub returns-in-Err-clause-fault : goal.returns-in-Err-clause-fault
returns-in-Err-clause-fault c =
    let terms = definitions_view c.args.definitions.now in
    let i = c.loop-number.number in
    let d = c.index-definitions-number.result in
    let within : i < length terms = omega (arith, c.loop-number-test.true, length-map c.args.definitions.now definition_view) in
    let h = refused terms (figures_view c.loop-number.figures) c.loop-number.known c.loop-number.invariant.right i within (definition_view d) (definition_is c.args.definitions.now i d c.loop-number-test.true c.index-definitions-number.is) c.in-Err.ensures.settled c.in-Err.refusal c.in-Err.ensures.past in
    search (rules, h)

pub returns-clause-wait : goal.returns-clause-wait
returns-clause-wait c = λ i h. c.loop-number.invariant.wait i (let within = unknown_within c.loop-number.known i h in omega (arith, within, c.loop-number-test.false, c.loop-number.auto.known, c.requires.marks)) h
