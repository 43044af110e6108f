use Rattle.std.proofs.Common.{take, map}
use Rattle.fidl_hints.proofs.Nearer.{IsSoFar}
use Rattle.fidl_hints.proofs.names.nearest.Given as goal

-- the best of the names so far
abbrev pub invariant-loop-name : goal.invariant-loop-name
invariant-loop-name l = IsSoFar l.word (map (λ n. n.now) (take l.name-index l.names)) l.best
