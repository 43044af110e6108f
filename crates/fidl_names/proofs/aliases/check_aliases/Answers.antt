use Rattle.std.proofs.Common.{◌≡◌, ◌<◌, ℕ, List, Result, Err, length, ap, sym, subst, ◌∙◌, refl}
use Rattle.std.specs.Prelude.{IfErr, IfOk, IsOk}
use Rattle.std.specs.Global.{Vec}
use Rattle.std.proofs.Math.ListN.{length-map}
use Rattle.std.proofs.lemmas.Option.{slice_get_within, slice_get_read}
use Rattle.fidl_cycles.specs.declared.cycles.CycleEdge.{CycleEdge}
use Rattle.fidl_names.specs.AliasGraph.{IsAliasOrder}
use Rattle.fidl_cycles.specs.Cycles.{Leads, IsEdge, IsFirstEdge, IsOrder, points_of}
use Rattle.fidl_names.specs.DeclarationNumbers.{number_of}
use Rattle.fidl_named.proofs.AliasFacts.{alias_id}
use Rattle.fidl_names.proofs.AliasEdges.{edge_within, first_back, alias_order, leads_edges, leading_alias}
use Rattle.fidl_names.proofs.aliases.check_aliases.Goals as goal

-- the first edge that was found, in the graph as it was made
module _ (seen graph : List (Vec ℕ)) (value : seen ≡ graph) (found : Result (Vec ℕ) CycleEdge) (e : CycleEdge) (is : found ≡ Err e) (cycle : IfErr found (λ e. IsFirstEdge (points_of seen) e.from e.to)) where
  first_edge : IsFirstEdge (points_of graph) e.from e.to
  first_edge =
      subst (λ (l : List (Vec ℕ)). IsFirstEdge (points_of l) e.from e.to) value
      (subst (λ (r : Result (Vec ℕ) CycleEdge). IfErr r (λ e. IsFirstEdge (points_of seen) e.from e.to)) is cycle)

  from_within : e.from < length (points_of graph)
  from_within =
      let edge = first_edge.0 in
      slice_get_within (points_of graph) e.from edge.targets edge.stands

pub find_cycle-requires : goal.find_cycle-requires
find_cycle-requires c = λ one other e.
    let graph = c.in_ok-graph.graph.items in
    let value = c.deref.ensures.value in
    let within = edge_within c.args.names.now.set.now c.in_ok-numbers.numbers.ids.items c.in_ok-numbers.numbers.starts.items (points_of graph) c.in_ok-numbers.ensures c.in_ok-graph.ensures one other
    (subst (λ (l : List (Vec ℕ)). IsEdge (points_of l) one other) value e) in
    subst (λ n. other < n) (length-map graph (λ (v : Vec ℕ). v.items) ∙ sym (ap length value)) within

pub index-requires : goal.index-requires
index-requires c =
    let inside = from_within c.deref.result.now c.in_ok-graph.graph.items c.deref.ensures.value c.in_ok-cycle_edge.field-0 c.in-Err.cycle_edge c.in-Err.is c.in_ok-cycle_edge.ensures.cycle in
    subst (λ n. c.in-Err.cycle_edge.from < n) (c.in_ok-graph.ensures.long ∙ sym c.in_ok-numbers.numbers.ids.ok.0) inside

pub name_place-place-requires : goal.name_place-place-requires
name_place-place-requires c =
    let ps = c.in_ok-numbers.numbers.ids.items in
    let a = c.in-Err.cycle_edge.from in
    let p = c.index.result.now in
    let inside = from_within c.deref.result.now c.in_ok-graph.graph.items c.deref.ensures.value c.in_ok-cycle_edge.field-0 c.in-Err.cycle_edge c.in-Err.is c.in_ok-cycle_edge.ensures.cycle in
    let lt : a < length ps = subst (λ n. a < n) c.in_ok-graph.ensures.long inside in
    c.in_ok-numbers.ensures.declared a p (slice_get_read ps (length ps) a p refl lt c.index.ensures)

pub returns-in-Err-clause-fault_is_true : goal.returns-in-Err-clause-fault_is_true
returns-in-Err-clause-fault_is_true c =
    let fs = c.args.names.now.set.now in
    let ps = c.in_ok-numbers.numbers.ids.items in
    let ss = c.in_ok-numbers.numbers.starts.items in
    let graph = c.in_ok-graph.graph.items in
    let e = c.in-Err.cycle_edge in
    let p = c.index.result.now in
    let first = first_edge c.deref.result.now graph c.deref.ensures.value c.in_ok-cycle_edge.field-0 e c.in-Err.is c.in_ok-cycle_edge.ensures.cycle in
    let inside = from_within c.deref.result.now graph c.deref.ensures.value c.in_ok-cycle_edge.field-0 e c.in-Err.is c.in_ok-cycle_edge.ensures.cycle in
    let lt : e.from < length ps = subst (λ n. e.from < n) c.in_ok-graph.ensures.long inside in
    let at = slice_get_read ps (length ps) e.from p refl lt c.index.ensures in
    let back = first_back fs ps ss (points_of graph) c.in_ok-numbers.ensures c.in_ok-graph.ensures e.from e.to p first at in
    let its = leading_alias fs p p back in
    record {
      id = p;
      file = its.0;
      alias = its.1;
      alias_at = its.2;
      back = back;
      place_is = c.name_place-place.ensures its.0 its.1 its.2;
    }

pub find_ends-requires-clause-order : goal.find_ends-requires-clause-order
find_ends-requires-clause-order c =
    let fs = c.args.names.now.set.now in
    let ps = c.in_ok-numbers.numbers.ids.items in
    let ss = c.in_ok-numbers.numbers.starts.items in
    let rows = points_of c.in_ok-graph.graph.items in
    let order = subst (λ (l : List (Vec ℕ)). IsOrder (points_of l) c.in-Ok.order.items) c.deref.ensures.value
    (subst (λ (r : Result (Vec ℕ) CycleEdge). IfOk r (λ order. IsOrder (points_of c.deref.result.now) order.items)) c.in-Ok.is c.in_ok-cycle_edge.ensures.order) in
    subst (λ (l : List ℕ). IsAliasOrder fs ss ps l) (sym c.deref-in-Ok.ensures.value)
    (alias_order fs ps ss rows c.in_ok-numbers.ensures c.in_ok-graph.ensures c.in-Ok.order.items order)

pub returns-clause-none : goal.returns-clause-none
returns-clause-none c = λ place h.
    let fs = c.args.names.now.set.now in
    let ps = c.in_ok-numbers.numbers.ids.items in
    let ss = c.in_ok-numbers.numbers.starts.items in
    let rows = points_of c.in_ok-graph.graph.items in
    let none = subst (λ (r : Result (Vec ℕ) CycleEdge). IsOk r → (t : ℕ) → Leads (IsEdge (points_of c.deref.result.now)) t t → ⊥) c.in-Ok.is c.in_ok-cycle_edge.ensures.none in
    let here = alias_id fs h.id h.file h.alias h.alias_at in
    let back = leads_edges fs ps ss rows c.in_ok-numbers.ensures c.in_ok-graph.ensures h.id h.id h.back here in
    none refl (number_of ss h.id) (subst (λ (l : List (Vec ℕ)). Leads (IsEdge (points_of l)) (number_of ss h.id) (number_of ss h.id)) (sym c.deref.ensures.value) back)
