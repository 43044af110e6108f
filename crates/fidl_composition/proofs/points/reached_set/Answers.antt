use Rattle.std.proofs.Common.{◌≡◌, ◌∙◌, Some, None, sym, arith}
use Rattle.std.specs.Prelude.{slice_get}
use Rattle.fidl_cycles.specs.Cycles.{points_of}
use Rattle.fidl_composition.proofs.Lists.{among}
use Rattle.fidl_composition.proofs.Growing.{goes_on, whole, past_end, reached_within, no_more}
use Rattle.fidl_composition.proofs.points.reached_set.Goals as goal

pub returns : goal.returns
returns c =
    let inv = c.loop-place.invariant in
    let graph = c.args.graph.now in
    let points = c.loop-place.points.keys in
    let few = no_more graph c.requires.edges c.args.root c.requires.within points inv.once inv.reaching.sound in
    let over = c.loop-place-test.false in
    whole (points_of graph) c.args.root points c.loop-place.place (omega (arith, few, over)) inv.reaching inv.once

pub returns-in_default : goal.returns-in_default
returns-in_default c =
    let inv = c.loop-place.invariant in
    let graph = points_of c.args.graph.now in
    let points = c.loop-place.points.keys in
    let none : slice_get points c.loop-place.place ≡ None = sym c.get_index.ensures.key ∙ sym c.in_default.ensures in
    whole graph c.args.root points c.loop-place.place (past_end graph c.args.root points c.loop-place.place none) inv.reaching inv.once

pub add_targets-requires : goal.add_targets-requires
add_targets-requires c =
    let inv = c.loop-place.invariant in
    let points = c.loop-place.points.keys in
    let at : slice_get points c.loop-place.place ≡ Some c.in-Some.point = sym c.get_index.ensures.key ∙ sym c.in-Some.ensures in
    reached_within c.args.graph.now c.requires.edges c.args.root c.requires.within c.in-Some.point (inv.reaching.sound c.in-Some.point (among points c.loop-place.place c.in-Some.point at))

pub loop-place-preserved : goal.loop-place-preserved
loop-place-preserved c =
    let inv = c.loop-place.invariant in
    let graph = points_of c.args.graph.now in
    let points = c.loop-place.points.keys in
    let by = c.in_ok-add_targets.ensures in
    let at : slice_get points c.loop-place.place ≡ Some c.in-Some.point = sym c.get_index.ensures.key ∙ sym c.in-Some.ensures in
    record {
      once = by.grows.once inv.once;
      reaching = goes_on graph c.args.root points c.add_targets.new.points.keys c.loop-place.place c.in-Some.point by.targets at by.edges inv.reaching by.grows;
    }
