use Rattle.std.specs.Prelude.{⊤}
use Rattle.fidl_bench.proofs.reading.read_again.Given as goal

abbrev pub invariant-loop : goal.invariant-loop
invariant-loop g l = ⊤
