use Rattle.std.proofs.Common.{◌≡◌}
use Rattle.fidl_members.specs.Entries.{owner}
use Rattle.fidl_members.specs.Owners.{owner_held}
use Rattle.fidl_bench_members.proofs.chain.ChainFound.sum.Given as goal

abbrev pub invariant-loop : goal.invariant-loop
invariant-loop l = owner_held l.node ≡ owner l.self.table.now l.self.entry
