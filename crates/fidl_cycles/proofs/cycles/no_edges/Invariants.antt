use Rattle.std.proofs.Common.{◌≡◌, []}
use Rattle.std.specs.Prelude.{replicate}
use Rattle.fidl_cycles.specs.Cycles.{points_of}
use Rattle.fidl_cycles.proofs.cycles.no_edges.Given as goal

-- the points so far have no targets
abbrev pub invariant-loop-point : goal.invariant-loop-point
invariant-loop-point l = points_of l.graph.items ≡ replicate l._point []
