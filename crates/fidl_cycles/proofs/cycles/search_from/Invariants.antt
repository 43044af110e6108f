use Rattle.std.proofs.Common.{◌≡◌, ◌+◌, ◌*◌, ℕ, length}
use Rattle.std.specs.Prelude.{◌⊎◌}
use Rattle.std.specs.List.{AllByRecursion}
use Rattle.fidl_cycles.specs.declared.cycles.Frame.{Frame}
use Rattle.fidl_cycles.specs.Cycles.{IsMarked, HasNoCycle, IsOrdered, IsTrail, IsPoint, points_of, trail_of}
use Rattle.fidl_cycles.proofs.Trails.{IsPassed, unmarked}
use Rattle.fidl_cycles.proofs.cycles.search_from.Given as goal

-- what was met is finished or stands on the way, along which each point leads to the next
abbrev pub invariant-loop-done : goal.invariant-loop-done
invariant-loop-done l = record {
  all_seen : length l.seen ≡ length l.graph;
  all_done : length l.done ≡ length l.graph;
  sound : HasNoCycle (points_of l.graph) l.done;
  trail : IsTrail (points_of l.graph) (trail_of l.path.items l.point);
  known : (t : ℕ) → IsMarked l.seen t → IsMarked l.done t ⊎ IsPoint (trail_of l.path.items l.point) t;
  frames : AllByRecursion (λ (f : Frame). IsPassed l.graph l.done f.point f.next) l.path.items;
  here : IsPassed l.graph l.done l.point l.next;
  ordered : IsOrdered (points_of l.graph) l.done l.order.items;
  kept : (t : ℕ) → IsMarked l.fn.done t → IsMarked l.done t;
  root : IsMarked l.seen l.root;
}

-- each turn meets a point or leaves one
abbrev pub decreases-loop-done : goal.decreases-loop-done
decreases-loop-done l = 2 * unmarked l.seen + length l.path.items
