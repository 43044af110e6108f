use Rattle.std.proofs.Common.{◌≡◌, ℕ, suc, ◌<◌, ◌≤◌}
use Rattle.fidl_table_format.specs.Method.{ordinal_at, IsMethod}
use Rattle.fidl_verify.specs.Runs.{AreSeen}
use Rattle.fidl_verify.proofs.methods.check_methods_of.Given as goal

-- the methods before this one keep their rules, and `last` is the ordinal of the one before, if any
abbrev pub invariant-loop-index : goal.invariant-loop-index
invariant-loop-index l = record {
  rules : (k : ℕ) → l.first ≤ k → k < l.index → IsMethod l.table.bytes.now l.table.header k;
  start : l.index ≡ l.first → l.last ≡ 0;
  seen : AreSeen l.table.bytes.now l.table.header l.seen;
  before : (k : ℕ) → l.first ≤ k → suc k ≡ l.index → l.last ≡ ordinal_at l.table.bytes.now l.table.header k;
}
