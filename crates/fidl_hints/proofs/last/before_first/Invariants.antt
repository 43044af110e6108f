use Rattle.std.proofs.Common.{◌-◌, length}
use Rattle.fidl_hints.proofs.Ends.{IsBefore}
use Rattle.fidl_hints.proofs.last.before_first.Given as goal

abbrev pub invariant-loop-to : goal.invariant-loop-to
invariant-loop-to l = IsBefore l.byte l.bytes l.to

abbrev pub decreases-loop-to : goal.decreases-loop-to
decreases-loop-to l = length l.bytes - l.to
