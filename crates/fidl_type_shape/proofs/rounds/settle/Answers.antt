use Rattle.std.proofs.Common.{rules, ◌≡◌, ◌<◌, ℕ, suc, ◌+◌, length, get_or, arith, subst}
use Rattle.std.proofs.Math.ListN.{length-map}
use Rattle.fidl_limits.specs.declared.limits.TheConstants.{MAX_NEST}
use Rattle.fidl_wire.specs.Term.{nothing}
use Rattle.fidl_ir.specs.Terms.{definition_view, definitions_view}
use Rattle.fidl_type_shape.specs.Nesting.{Nested, none}
use Rattle.fidl_type_shape.specs.Views.{figures_view}
use Rattle.fidl_type_shape.proofs.Nests.{next_turn, too_nested, fewer, no_name_at}
use Rattle.fidl_type_shape.proofs.Visits.{unknown_within, all_known}
use Rattle.fidl_type_shape.proofs.rounds.settle.Goals as goal

pub loop-turn-init : goal.loop-turn-init
loop-turn-init c = record { right = c.requires.found; nested = λ i h. none (get_or (definitions_view c.args.definitions.now) i nothing) }

pub loop-turn-preserved : goal.loop-turn-preserved
loop-turn-preserved c =
    let ds = c.args.definitions.now in
    let turn = c.loop-turn._turn in
    let long : length c.loop-turn.known ≡ length ds = omega (arith, c.loop-turn.auto.known, c.requires.marks) in
    let step = next_turn ds c.loop-turn.known c.visit_all.new.known long turn c.loop-turn.invariant.nested c.in_ok-visit_all.ensures.wait in
    let one_more : suc turn ≡ turn + 1 = omega arith in
    record {
      right = c.in_ok-visit_all.ensures.found;
      nested = λ i h. subst (λ (n : ℕ). Nested (definitions_view ds) n (get_or (definitions_view ds) i nothing)) one_more (step i h);
    }

pub returns-in-Some-clause-fault : goal.returns-in-Some-clause-fault
returns-in-Some-clause-fault c =
    let terms = definitions_view c.args.definitions.now in
    let i = c.in-Some.definition in
    let unknown = c.in-Some.ensures.some in
    let there = unknown_within c.loop-turn.known i unknown in
    let within : i < length terms = omega (arith, there, c.loop-turn.auto.known, c.requires.marks, length-map c.args.definitions.now definition_view) in
    too_nested terms i within (no_name_at c.args.definitions.now i) (fewer terms c.loop-turn._turn (suc MAX_NEST) (get_or terms i nothing) (omega (arith, c.loop-turn-test.false)) (c.loop-turn.invariant.nested i unknown))

pub returns-in-None-clause-found : goal.returns-in-None-clause-found
returns-in-None-clause-found c = all_known (definitions_view c.args.definitions.now) (figures_view c.loop-turn.figures) c.loop-turn.known c.loop-turn.invariant.right (c.in-None.ensures.none (search rules))
