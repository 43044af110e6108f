use Rattle.std.proofs.Common.{length}
use Rattle.fidl_streams.proofs.Taking.{IsSoFar}
use Rattle.fidl_streams.proofs.writing.write_all.Given as goal

-- a front is taken and the rest is left, and no call has failed
abbrev pub invariant-loop-rest : goal.invariant-loop-rest
invariant-loop-rest g l = IsSoFar (g.W.Sink.taken l.fn.out) (g.W.Sink.taken l.out) l.fn.bytes l.rest

abbrev pub decreases-loop-rest : goal.decreases-loop-rest
decreases-loop-rest g l = length l.rest
