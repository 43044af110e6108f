use Rattle.std.proofs.Common.{ℕ, ◌<◌}
use Rattle.fidl_table_format.specs.Root.{IsRoot}
use Rattle.fidl_verify.specs.Runs.{AreSeen}
use Rattle.fidl_verify.proofs.roots.check_roots.Given as goal

abbrev pub invariant-loop-index : goal.invariant-loop-index
invariant-loop-index l = record {
  rules : (k : ℕ) → k < l.index → IsRoot l.table.bytes.now l.table.header k;
  seen : AreSeen l.table.bytes.now l.table.header l.seen;
}
