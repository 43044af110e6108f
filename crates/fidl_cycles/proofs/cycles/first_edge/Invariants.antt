use Rattle.std.proofs.Common.{◌≤◌, ℕ, List, length, take}
use Rattle.fidl_cycles.specs.Cycles.{IsEdge, IsPoint, IsTrail, trail_of}
use Rattle.fidl_cycles.proofs.Firsts.{GoesBack}
use Rattle.fidl_cycles.proofs.cycles.first_edge.Given as goal

-- the target stands on the rest of the way, and the edge so far is the first of those met
abbrev pub invariant-loop-next : goal.invariant-loop-next
invariant-loop-next l = record {
  within : l.index ≤ length l.path;
  on : IsPoint (trail_of (take l.index l.path) l.next) l.target;
  back : (graph : List (List ℕ)) → IsTrail graph (trail_of l.path l.point) → IsEdge graph l.point l.target → GoesBack graph (trail_of (take l.index l.path) l.next) l.next l.point l.target l.first;
}

abbrev pub decreases-loop-next : goal.decreases-loop-next
decreases-loop-next l = l.index
