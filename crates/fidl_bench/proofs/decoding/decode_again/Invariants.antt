use Rattle.std.specs.Prelude.{⊤}
use Rattle.fidl_bench.proofs.decoding.decode_again.Given as goal

abbrev pub invariant-loop : goal.invariant-loop
invariant-loop l = ⊤
