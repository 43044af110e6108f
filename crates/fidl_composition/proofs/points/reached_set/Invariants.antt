use Rattle.fidl_cycles.specs.Cycles.{points_of}
use Rattle.fidl_composition.specs.Points.{AreDistinct, IsReaching}
use Rattle.fidl_composition.proofs.points.reached_set.Given as goal

-- the points have what those before this place lead to
abbrev pub invariant-loop-place : goal.invariant-loop-place
invariant-loop-place l = record {
  once : AreDistinct l.points.keys;
  reaching : IsReaching (points_of l.graph) l.root l.place l.points.keys;
}
