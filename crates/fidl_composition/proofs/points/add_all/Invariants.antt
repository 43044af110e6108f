use Rattle.std.proofs.Common.{take}
use Rattle.fidl_composition.specs.Points.{GrowsBy}
use Rattle.fidl_composition.proofs.points.add_all.Given as goal

-- the targets so far are among the points
abbrev pub invariant-loop-target : goal.invariant-loop-target
invariant-loop-target l = GrowsBy l.fn.points.keys l.points.keys (take l.target-index l.targets)
