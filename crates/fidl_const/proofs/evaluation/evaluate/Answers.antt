use Rattle.std.proofs.Common.{rules, ◌≡◌, ◌<◌, ℕ, Some, None, length, refl, sym, subst}
use Rattle.std.specs.Prelude.{slice_get, IfErr, IfOk, IsOk, Result}
use Rattle.std.specs.Global.{Vec}
use Rattle.std.proofs.lemmas.Option.{same_Some, slice_get_read}
use Rattle.std.proofs.lemmas.Result.{err_from_is_err_and}
use Rattle.std.proofs.Math.ListN.{length-map}
use Rattle.fidl_named.specs.declared.meaning.Predeclared.TheVariants as name
use Rattle.fidl_named.specs.declared.meaning.Meaning.TheVariants as meaning
use Rattle.fidl_named.specs.declared.place.Place.{Place}
use Rattle.fidl_cycles.specs.declared.cycles.CycleEdge.{CycleEdge}
use Rattle.fidl_cycles.specs.Cycles.{Leads, IsEdge, IsFirstEdge, IsOrder, points_of}
use Rattle.fidl_consts.specs.Dependencies.{IsNode}
use Rattle.fidl_const.specs.Columns.{AreRows, IsNodeOrder}
use Rattle.fidl_const.proofs.Graphs.{edges_within, back, none_back, start_within, node_order}
use Rattle.fidl_const.proofs.NoCycle.{reported_true}
use Rattle.fidl_const.proofs.evaluation.evaluate.Goals as goal

pub find_cycle-requires : goal.find_cycle-requires
find_cycle-requires c = λ one other e.
    let files = c.args.named.now in
    let nodes = c.in_ok-numbers.numbers.nodes.items in
    let starts = c.in_ok-numbers.numbers.starts.items in
    let rows = subst (λ l. AreRows files nodes starts (points_of l)) (sym c.deref.ensures.value) c.in_ok-graph.ensures in
    let within = edges_within files nodes starts (points_of c.deref.result.now) c.in_ok-numbers.ensures rows one other e (meaning.Predeclared name.Max) in
    subst (λ n. other < n) (length-map c.deref.result.now (λ v. v.items)) within

pub index-requires : goal.index-requires
index-requires c =
    let files = c.args.named.now in
    let nodes = c.in_ok-numbers.numbers.nodes.items in
    let starts = c.in_ok-numbers.numbers.starts.items in
    let graph = points_of c.deref.result.now in
    let rows = subst (λ l. AreRows files nodes starts (points_of l)) (sym c.deref.ensures.value) c.in_ok-graph.ensures in
    let first : IsFirstEdge graph c.in-Err.cycle_edge.from c.in-Err.cycle_edge.to = subst (λ r. IfErr r (λ e. IsFirstEdge graph e.from e.to)) c.in-Err.is c.in_ok-cycle_edge.ensures.cycle in
    let within : c.in-Err.cycle_edge.from < length nodes = start_within files nodes starts graph c.in_ok-numbers.ensures rows c.in-Err.cycle_edge.from c.in-Err.cycle_edge.to first in
    search (rules, within)

pub unreachable-requires : goal.unreachable-requires
unreachable-requires c =
    let files = c.args.named.now in
    let nodes = c.in_ok-numbers.numbers.nodes.items in
    let starts = c.in_ok-numbers.numbers.starts.items in
    let graph = points_of c.deref.result.now in
    let rows = subst (λ l. AreRows files nodes starts (points_of l)) (sym c.deref.ensures.value) c.in_ok-graph.ensures in
    let first : IsFirstEdge graph c.in-Err.cycle_edge.from c.in-Err.cycle_edge.to = subst (λ r. IfErr r (λ e. IsFirstEdge graph e.from e.to)) c.in-Err.is c.in_ok-cycle_edge.ensures.cycle in
    let within : c.in-Err.cycle_edge.from < length nodes = start_within files nodes starts graph c.in_ok-numbers.ensures rows c.in-Err.cycle_edge.from c.in-Err.cycle_edge.to first in
    let at : slice_get nodes c.in-Err.cycle_edge.from ≡ Some c.index.result.now = slice_get_read nodes (length nodes) c.in-Err.cycle_edge.from c.index.result.now refl within c.index.ensures in
    let known = c.in_ok-numbers.ensures.node c.in-Err.cycle_edge.from c.index.result.now at in
    let bad : None ≡ Some known.place = c.in_default.ensures known.file known.place known.is in
    cc

pub values_in_order-requires-clause-order : goal.values_in_order-requires-clause-order
values_in_order-requires-clause-order c =
    let files = c.args.named.now in
    let nodes = c.in_ok-numbers.numbers.nodes.items in
    let starts = c.in_ok-numbers.numbers.starts.items in
    let graph = points_of c.deref.result.now in
    let rows = subst (λ l. AreRows files nodes starts (points_of l)) (sym c.deref.ensures.value) c.in_ok-graph.ensures in
    let order : IsOrder graph c.in-Ok.order.items = subst (λ r. IfOk r (λ order. IsOrder graph order.items)) c.in-Ok.is c.in_ok-cycle_edge.ensures.order in
    subst (IsNodeOrder files nodes) (sym c.deref-in-Ok.ensures.value) (node_order files nodes starts graph c.in_ok-numbers.ensures rows c.in-Ok.order.items order)

pub returns-in_err-consts-in-Ok-clause-fault_is_true : goal.returns-in_err-consts-in-Ok-clause-fault_is_true
returns-in_err-consts-in-Ok-clause-fault_is_true c =
    let h = reported_true c.args.named.now c.in_err-consts-in-Ok.field-0.0 c.in_err-consts-in-Ok.ensures.fault_is_true in
    let p = err_from_is_err_and c.from_residual-in_err-consts-in-Ok.result c.from_residual-in_err-consts-in-Ok.ensures.1 in
    rw (p.1, p.2) h

pub returns-in_err-check_places-in-Ok-clause-fault_is_true : goal.returns-in_err-check_places-in-Ok-clause-fault_is_true
returns-in_err-check_places-in-Ok-clause-fault_is_true c =
    let h = reported_true c.args.named.now c.in_err-check_places-in-Ok.field-0.0 c.in_err-check_places-in-Ok.ensures.fault_is_true in
    let p = err_from_is_err_and c.from_residual-in_err-check_places-in-Ok.result c.from_residual-in_err-check_places-in-Ok.ensures.1 in
    rw (p.1, p.2) h

pub returns-in-Some-clause-fault_is_true : goal.returns-in-Some-clause-fault_is_true
returns-in-Some-clause-fault_is_true c =
    let files = c.args.named.now in
    let nodes = c.in_ok-numbers.numbers.nodes.items in
    let starts = c.in_ok-numbers.numbers.starts.items in
    let graph = points_of c.deref.result.now in
    let m = c.index.result.now in
    let from = c.in-Err.cycle_edge.from in
    let rows = subst (λ l. AreRows files nodes starts (points_of l)) (sym c.deref.ensures.value) c.in_ok-graph.ensures in
    let first : IsFirstEdge graph from c.in-Err.cycle_edge.to = subst (λ r. IfErr r (λ e. IsFirstEdge graph e.from e.to)) c.in-Err.is c.in_ok-cycle_edge.ensures.cycle in
    let within : from < length nodes = start_within files nodes starts graph c.in_ok-numbers.ensures rows from c.in-Err.cycle_edge.to first in
    let at : slice_get nodes from ≡ Some m = slice_get_read nodes (length nodes) from m refl within c.index.ensures in
    let known = c.in_ok-numbers.ensures.node from m at in
    let same : c.in-Some.place ≡ known.place = same_Some c.in-Some.place known.place (c.in-Some.ensures known.file known.place known.is) in
    record {
      node = m;
      file = known.file;
      is = subst (λ (p : Place). IsNode files m known.file p) (sym same) known.is;
      back = back files nodes starts graph c.in_ok-numbers.ensures rows from c.in-Err.cycle_edge.to m first at;
    }

pub returns-in_ok-check_places-in-Ok-clause-evaluates : goal.returns-in_ok-check_places-in-Ok-clause-evaluates
returns-in_ok-check_places-in-Ok-clause-evaluates c =
    let files = c.args.named.now in
    let nodes = c.in_ok-numbers.numbers.nodes.items in
    let starts = c.in_ok-numbers.numbers.starts.items in
    let graph = points_of c.deref.result.now in
    let rows = subst (λ l. AreRows files nodes starts (points_of l)) (sym c.deref.ensures.value) c.in_ok-graph.ensures in
    let none = subst (λ (r : Result (Vec ℕ) CycleEdge). IsOk r → (t : ℕ) → Leads (IsEdge graph) t t → ⊥) c.in-Ok.is c.in_ok-cycle_edge.ensures.none in
    record {
      no_cycle = none_back files nodes starts graph c.in_ok-numbers.ensures rows (none refl);
      constants = c.in_ok-consts-in-Ok.ensures.holds;
      places = c.in_ok-check_places-in-Ok.ensures.ok;
    }
