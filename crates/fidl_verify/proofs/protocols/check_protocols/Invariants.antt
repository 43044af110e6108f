use Rattle.std.proofs.Common.{◌≡◌, ℕ, ◌<◌, ◌≤◌}
use Rattle.fidl_table_format.specs.Protocol.{IsProtocol, methods_before}
use Rattle.fidl_verify.specs.Runs.{AreSeen}
use Rattle.fidl_verify.proofs.protocols.check_protocols.Given as goal

abbrev pub invariant-loop-index : goal.invariant-loop-index
invariant-loop-index l = record {
  rules : (k : ℕ) → k < l.index → IsProtocol l.table.bytes.now l.table.header k;
  before : l.methods ≡ methods_before l.table.bytes.now l.table.header l.index;
  room : l.methods ≤ l.table.header.methods;
  seen : AreSeen l.table.bytes.now l.table.header l.seen;
}
