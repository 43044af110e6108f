use Rattle.std.proofs.Common.{ℕ, ◌<◌}
use Rattle.fidl_table_format.specs.Entry.{IsEntry}
use Rattle.fidl_verify.specs.Measured.{AreBefore, HasRoom}
use Rattle.fidl_verify.specs.Runs.{AreSeen}
use Rattle.fidl_verify.proofs.entry.check_entries.Given as goal

abbrev pub invariant-loop-index : goal.invariant-loop-index
invariant-loop-index l = record {
  parts : AreBefore l.table.bytes.now l.index l.parts;
  room : HasRoom l.table.header l.parts;
  seen : AreSeen l.table.bytes.now l.table.header l.seen;
  kept : (k : ℕ) → k < l.index → IsEntry l.table.bytes.now l.table.header k;
}
