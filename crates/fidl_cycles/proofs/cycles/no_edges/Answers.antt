use Rattle.std.proofs.Common.{◌≡◌, [], ℕ, List, length, ap, sym, subst, ◌∙◌, arith}
use Rattle.std.specs.Global.{Vec}
use Rattle.std.proofs.lemmas.List.{length-replicate}
use Rattle.std.proofs.Math.ListN.{length-map}
use Rattle.fidl_cycles.specs.Cycles.{IsEdge, points_of}
use Rattle.fidl_cycles.proofs.Edges.{no_edge}
use Rattle.fidl_cycles.proofs.cycles.no_edges.Goals as goal

pub returns-clause-long : goal.returns-clause-long
returns-clause-long c =
    let graph = c.loop-point.graph.items in
    let over = c.loop-point-test.false in
    let long : length (points_of graph) ≡ c.loop-point._point = ap length c.loop-point.invariant ∙ length-replicate {A = List ℕ} c.loop-point._point [] in
    sym (length-map graph (λ (v : Vec ℕ). v.items)) ∙ long ∙ (omega arith)

pub returns-clause-none : goal.returns-clause-none
returns-clause-none c = λ one other e. no_edge c.loop-point._point one other (subst (λ g. IsEdge g one other) c.loop-point.invariant e)
