use Rattle.std.specs.Prelude.{⊤}
use Rattle.fidl_bench.proofs.spelled.read_again.Given as goal

abbrev pub invariant-loop : goal.invariant-loop
invariant-loop l = ⊤
