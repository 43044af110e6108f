use Rattle.std.proofs.Common.{ℕ, ◌∙◌, sym, arith}
use Rattle.std.proofs.Math.ListN.{length-map}
use Rattle.std.specs.Global.{Vec}
use Rattle.fidl_cycles.specs.Cycles.{points_of}
use Rattle.fidl_cycles.proofs.Orders.{order_all, leads_start}
use Rattle.fidl_cycles.proofs.cycles.find_cycle.Goals as goal

pub returns-clause-order : goal.returns-clause-order
returns-clause-order c =
    let graph = c.args.graph.now in
    let inv = c.loop-root.invariant in
    let over = c.loop-root-test.false in
    let long = length-map graph (λ (v : Vec ℕ). v.items) in
    order_all (points_of graph) c.loop-root.done.items c.loop-root.order.items (inv.all_done ∙ sym long) inv.ordered (λ t lt. inv.finished t (omega (arith, lt)))

pub returns-clause-none : goal.returns-clause-none
returns-clause-none c = λ _ t round.
    let graph = c.args.graph.now in
    let inv = c.loop-root.invariant in
    let over = c.loop-root-test.false in
    let long = length-map graph (λ (v : Vec ℕ). v.items) in
    let lt = leads_start (points_of graph) t t round in
    inv.sound.acyclic t (inv.finished t (omega (arith, lt))) round
