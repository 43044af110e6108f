use Rattle.std.proofs.Common.{◌<◌, ℕ, ap, subst}
use Rattle.std.specs.Prelude.{is_ok}
use Rattle.std.proofs.Math.ListN.{length-map}
use Rattle.std.specs.Global.{Vec}
use Rattle.std.proofs.lemmas.Option.{slice_get_within}
use Rattle.fidl_cycles.specs.Cycles.{IsFirstEdge, points_of}
use Rattle.fidl_composition.proofs.Ways.{edge_within, number_within, none_back, first_back}
use Rattle.fidl_composition.proofs.cycle.check_cycles.Goals as goal

pub find_cycle-requires : goal.find_cycle-requires
find_cycle-requires c = λ one other e. subst (λ (n : ℕ). other < n) (length-map c.args.graph.now (λ (v : Vec ℕ). v.items)) (edge_within c.args.named.now c.args.ids.now (points_of c.args.graph.now) c.requires one other e)

pub returns-in-Ok-clause-ok : goal.returns-in-Ok-clause-ok
returns-in-Ok-clause-ok c = none_back c.args.named.now c.args.ids.now (points_of c.args.graph.now) c.requires (c.in_ok-_order.ensures.none (ap is_ok c.in-Ok.is))

pub name_place-place-requires-clause-within : goal.name_place-place-requires-clause-within
name_place-place-requires-clause-within c =
    let graph = points_of c.args.graph.now in
    let edge = c.in-Err.cycle_edge in
    let first : IsFirstEdge graph edge.from edge.to = rw c.in-Err.is at c.in_ok-_order.ensures.cycle in
    number_within c.args.named.now c.args.ids.now graph c.requires edge.from (slice_get_within graph edge.from first.0.targets first.0.stands)

pub name_place-place-requires-clause-protocols : goal.name_place-place-requires-clause-protocols
name_place-place-requires-clause-protocols c = c.requires.protocols.entries

pub returns-in-Err-clause-fault_is_true : goal.returns-in-Err-clause-fault_is_true
returns-in-Err-clause-fault_is_true c =
    let graph = points_of c.args.graph.now in
    let edge = c.in-Err.cycle_edge in
    let first : IsFirstEdge graph edge.from edge.to = rw c.in-Err.is at c.in_ok-_order.ensures.cycle in
    let place = c.name_place-place.ensures in
    record {
      id = place.id;
      file = place.file;
      openness = place.openness;
      name = place.name;
      members = place.members;
      is = place.is;
      back = first_back c.args.named.now c.args.ids.now graph c.requires edge.from edge.to place.id first place.number_at;
      place_is = place.place_is;
    }
