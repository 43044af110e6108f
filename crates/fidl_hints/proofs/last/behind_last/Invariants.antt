use Rattle.fidl_hints.proofs.Ends.{IsPassed}
use Rattle.fidl_hints.proofs.last.behind_last.Given as goal

abbrev pub invariant-loop-from : goal.invariant-loop-from
invariant-loop-from l = IsPassed l.byte l.bytes l.from

abbrev pub decreases-loop-from : goal.decreases-loop-from
decreases-loop-from l = l.from
