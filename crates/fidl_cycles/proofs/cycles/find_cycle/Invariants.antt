use Rattle.std.proofs.Common.{◌≡◌, ◌<◌, ℕ, length}
use Rattle.fidl_cycles.specs.Cycles.{IsMarked, HasNoCycle, IsOrdered, points_of}
use Rattle.fidl_cycles.proofs.cycles.find_cycle.Given as goal

-- the points so far are finished, and nothing else was met
abbrev pub invariant-loop-root : goal.invariant-loop-root
invariant-loop-root l = record {
  all_seen : length l.seen.items ≡ length l.graph;
  all_done : length l.done.items ≡ length l.graph;
  sound : HasNoCycle (points_of l.graph) l.done.items;
  settled : (t : ℕ) → IsMarked l.seen.items t → IsMarked l.done.items t;
  ordered : IsOrdered (points_of l.graph) l.done.items l.order.items;
  finished : (t : ℕ) → t < l.root → IsMarked l.done.items t;
}
