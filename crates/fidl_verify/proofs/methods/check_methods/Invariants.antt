use Rattle.std.proofs.Common.{◌≡◌, ℕ, ◌<◌}
use Rattle.fidl_table_format.specs.Protocol.{methods_before}
use Rattle.fidl_table_format.specs.Method.{IsMethod}
use Rattle.fidl_verify.specs.Runs.{AreSeen}
use Rattle.fidl_verify.proofs.methods.check_methods.Given as goal

abbrev pub invariant-loop-protocol : goal.invariant-loop-protocol
invariant-loop-protocol l = record {
  before : l.first ≡ methods_before l.table.bytes.now l.table.header l.protocol;
  rules : (k : ℕ) → k < l.first → IsMethod l.table.bytes.now l.table.header k;
  seen : AreSeen l.table.bytes.now l.table.header l.seen;
}
