use Rattle.std.proofs.Common.{◌≡◌}
use Rattle.std.specs.Io.KnownBytes.{Keeps}
use Rattle.fidl_text.proofs.output.Output.write_some.Given as goal

-- each write so far was interrupted, and took nothing
abbrev pub invariant-loop : goal.invariant-loop
invariant-loop g l = record {
  bytes : Keeps (g.W.Write.contents l.fn.self.writer) (g.W.Write.contents l.self.writer);
  failure : l.self.failure ≡ l.fn.self.failure;
  failures : l.self.failures ≡ l.fn.self.failures;
}
