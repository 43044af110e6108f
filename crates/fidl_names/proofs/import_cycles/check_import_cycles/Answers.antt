use Rattle.std.proofs.Common.{ℕ, List, length, ap, subst, arith}
use Rattle.std.proofs.Math.ListN.{length-map}
use Rattle.std.specs.Prelude.{is_ok}
use Rattle.std.specs.Global.{Vec}
use Rattle.fidl_cycles.specs.Cycles.{Leads, IsEdge, IsFirstEdge, points_of}
use Rattle.fidl_named.specs.NameMaps.{seen}
use Rattle.fidl_names.proofs.Graphs.{edge_within, reported_back, none_back}
use Rattle.fidl_names.proofs.import_cycles.check_import_cycles.Goals as goal

pub find_cycle-requires : goal.find_cycle-requires
find_cycle-requires c = λ one other e.
    let entries = c.args.libraries.now.entries in
    let graph = c.in_ok-graph.graph.items in
    let there = subst (λ (g : List (Vec ℕ)). IsEdge (points_of g) one other) c.deref.ensures.value e in
    let lt = edge_within c.args.set.now (seen entries) (points_of graph) c.requires.numbered c.in_ok-graph.ensures.edges one other there in
    let long = length-map {B = List ℕ × ℕ} entries (λ (e : Vec ℕ × ℕ). (e.0.items, e.1)) in
    let same = c.in_ok-graph.ensures.long in
    let value = ap length c.deref.ensures.value in
    omega (arith, lt, long, same, value)

pub returns-in-Ok-clause-none : goal.returns-in-Ok-clause-none
returns-in-Ok-clause-none c =
    let graph = c.in_ok-graph.graph.items in
    let acyclic = subst (λ (g : List (Vec ℕ)). (t : ℕ) → Leads (IsEdge (points_of g)) t t → ⊥) c.deref.ensures.value (c.in_ok-_order.ensures.none (ap is_ok c.in-Ok.is)) in
    none_back c.args.set.now (seen c.args.libraries.now.entries) (points_of graph) c.requires.numbered c.in_ok-graph.ensures.edges c.requires.same c.requires.known acyclic

pub find_place-requires-clause-there : goal.find_place-requires-clause-there
find_place-requires-clause-there c =
    let edge = c.in-Err.edge in
    let found = rw c.in-Err.is at c.in_ok-_order.ensures.cycle in
    let cycle = subst (λ (g : List (Vec ℕ)). IsFirstEdge (points_of g) edge.from edge.to) c.deref.ensures.value found in
    (c.in_ok-graph.ensures.edges edge.from edge.to).0 cycle.0

pub returns-clause-fault_is_true : goal.returns-clause-fault_is_true
returns-clause-fault_is_true c =
    let edge = c.in-Err.edge in
    let found = rw c.in-Err.is at c.in_ok-_order.ensures.cycle in
    let cycle = subst (λ (g : List (Vec ℕ)). IsFirstEdge (points_of g) edge.from edge.to) c.deref.ensures.value found in
    reported_back c.args.set.now (seen c.args.libraries.now.entries) (points_of c.in_ok-graph.graph.items) c.requires.numbered c.in_ok-graph.ensures.edges edge.from edge.to c.in_ok-place-in-Err.place cycle c.in_ok-place-in-Err.ensures
