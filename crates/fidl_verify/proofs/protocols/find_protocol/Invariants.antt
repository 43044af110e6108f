use Rattle.std.proofs.Common.{◌≡◌, ◌≢◌, ℕ, ◌<◌}
use Rattle.fidl_table_format.specs.Protocol.{protocol_name, methods_before}
use Rattle.fidl_verify.proofs.protocols.find_protocol.Given as goal

abbrev pub invariant-loop-index : goal.invariant-loop-index
invariant-loop-index l = record {
  before : l.first ≡ methods_before l.table.bytes.now l.table.header l.index;
  others : (k : ℕ) → k < l.index → protocol_name l.table.bytes.now l.table.header k ≢ l.name;
}
