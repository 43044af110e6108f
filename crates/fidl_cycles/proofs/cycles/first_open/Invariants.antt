use Rattle.std.proofs.Common.{ℕ, ◌<◌, get_or}
use Rattle.fidl_cycles.specs.Cycles.{IsMarked}
use Rattle.fidl_cycles.proofs.cycles.first_open.Given as goal

-- the targets so far are finished
abbrev pub invariant-loop-i : goal.invariant-loop-i
invariant-loop-i l = (k : ℕ) → k < l.i → IsMarked l.done (get_or l.targets k 0)
