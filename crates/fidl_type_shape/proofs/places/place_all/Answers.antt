use Rattle.std.proofs.Common.{rules, ◌<◌, ◌≡◌, ℕ, ◌++◌, ◌+◌, List, length, map, drop, sym, subst, arith}
use Rattle.std.specs.Global.{Vec}
use Rattle.std.specs.List.{AllByRecursion}
use Rattle.std.proofs.Math.ListN.{length-map}
use Rattle.fidl_wire.specs.Term.{Term, fields_of, nothing}
use Rattle.fidl_wire.specs.Figure.{figure_of, offsets}
use Rattle.fidl_ir.specs.Terms.{definition_view, definitions_view}
use Rattle.fidl_type_shape.specs.Limits.{IsWithin, parts}
use Rattle.fidl_type_shape.specs.Views.{figures_view, lists}
use Rattle.fidl_type_shape.proofs.Lists.{all_more}
use Rattle.fidl_type_shape.proofs.Visits.{definition_is}
use Rattle.fidl_type_shape.proofs.Laid.{few_at, own_at, refused_within, offsets_more}
use Rattle.fidl_type_shape.proofs.places.place_all.Goals as goal

pub place-requires-clause-few : goal.place-requires-clause-few
place-requires-clause-few c = few_at c.args.definitions.now c.args.figures.now c.requires.found c.loop-number.number c.index-definitions-number.result c.loop-number-test.true c.index-definitions-number.is

pub place-requires-clause-own : goal.place-requires-clause-own
place-requires-clause-own c = own_at c.args.definitions.now c.args.figures.now c.requires.found c.loop-number.number c.index-definitions-number.result c.loop-number-test.true c.index-definitions-number.is

pub returns-in-Err-clause-fault : goal.returns-in-Err-clause-fault
returns-in-Err-clause-fault c =
    let h = refused_within c.args.definitions.now c.args.figures.now c.requires.found c.loop-number.number c.index-definitions-number.result c.loop-number-test.true c.index-definitions-number.is c.in-Err.refusal c.in-Err.ensures.fault_is_true in
    search (rules, h)

pub loop-number-preserved : goal.loop-number-preserved
loop-number-preserved c =
    let ds = c.args.definitions.now in
    let figures = figures_view c.args.figures.now in
    let i = c.loop-number.number in
    let d = c.index-definitions-number.result in
    let F = λ (t : Term). offsets figures 0 (fields_of t) in
    let P = λ (t : Term). AllByRecursion (λ u. IsWithin (figure_of figures u)) (parts t) in
    let within : i < length (definitions_view ds) = omega (arith, c.loop-number-test.true, length-map ds definition_view) in
    let one = offsets_more F ds c.loop-number.all.items i d c.in-Ok.offsets c.loop-number-test.true c.index-definitions-number.is c.in-Ok.ensures.ok c.loop-number.invariant.so_far in
    record {
      so_far = subst (λ (xs : List (Vec ℕ)). lists xs ++ map F (definitions_view (drop (i + 1) ds)) ≡ map F (definitions_view ds)) (sym c.in_ok-push-in-Ok.ensures.items) one;
      within = all_more P (definitions_view ds) i nothing within c.loop-number.invariant.within (subst P (definition_is ds i d c.loop-number-test.true c.index-definitions-number.is) c.in-Ok.ensures.within);
    }
