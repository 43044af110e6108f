use Rattle.std.proofs.Common.{◌<◌, ◌∙◌, ℕ, List, sym, subst}
use Rattle.std.proofs.Math.ListN.{length-map}
use Rattle.std.specs.Global.{Vec}
use Rattle.fidl_named.specs.declared.place.DeclarationId.{DeclarationId}
use Rattle.fidl_cycles.specs.Cycles.{points_of}
use Rattle.fidl_composition.specs.Numbers.{AreCompositions}
use Rattle.fidl_composition.proofs.Ways.{compositions_of, hold_of, edge_within}
use Rattle.fidl_composition.proofs.whole.compositions.Goals as goal

pub check_cycles-requires : goal.check_cycles-requires
check_cycles-requires c =
    let fs = c.args.named.now in
    let numbers = c.in_ok-numbers.numbers in
    let graph = c.in_ok-graph.graph.items in
    let known = compositions_of fs numbers.ids.items (points_of numbers.rows.items) (points_of graph) c.in_ok-numbers.ensures c.in_ok-graph.ensures.ok in
    subst (λ (l : List DeclarationId). AreCompositions fs (l, points_of c.deref-2.result.now)) (sym c.deref.ensures.value)
    (subst (λ (g : List (Vec ℕ)). AreCompositions fs (numbers.ids.items, points_of g)) (sym c.deref-2.ensures.value) known)

pub invariant_of-result : goal.invariant_of-result
invariant_of-result c =
    let fs = c.args.named.now in
    let numbers = c.in_ok-numbers.numbers in
    let graph = c.in_ok-graph.graph.items in
    let known = compositions_of fs numbers.ids.items (points_of numbers.rows.items) (points_of graph) c.in_ok-numbers.ensures c.in_ok-graph.ensures.ok in
    let long = length-map graph (λ (v : Vec ℕ). v.items) in
    (λ one other e. subst (λ (n : ℕ). other < n) long (edge_within fs numbers.ids.items (points_of graph) known one other e), sym long ∙ known.long)

pub returns-clause-ok : goal.returns-clause-ok
returns-clause-ok c =
    let numbers = c.in_ok-numbers.numbers in
    compositions_of c.args.named.now numbers.ids.items (points_of numbers.rows.items) (points_of c.in_ok-graph.graph.items) c.in_ok-numbers.ensures c.in_ok-graph.ensures.ok

pub returns-clause-holds : goal.returns-clause-holds
returns-clause-holds c =
    let numbers = c.in_ok-numbers.numbers in
    hold_of c.args.named.now numbers.ids.items (points_of numbers.rows.items) (points_of c.in_ok-graph.graph.items) c.in_ok-numbers.ensures c.in_ok-graph.ensures.ok c.in_ok-graph.ensures.holds c.in_ok-check_cycles.ensures.ok
