use Rattle.std.proofs.Common.{◌≡◌}
use Rattle.fidl_text.proofs.Written.{IsSoFar}
use Rattle.fidl_text.proofs.output.Output.write_all.Given as goal

-- a front is written and the rest is left, and no write has failed
abbrev pub invariant-loop : goal.invariant-loop
invariant-loop g l = IsSoFar (g.W.Write.contents l.fn.self.writer) (g.W.Write.contents l.self.writer) l.fn.bytes l.rest × (l.self.failure ≡ l.fn.self.failure)
