use Rattle.std.proofs.Common.{ℕ, ◌+◌, ◌<◌}
use Rattle.fidl_table_format.specs.Section.{row_at}
use Rattle.fidl_table_format.specs.Name.{IsMemberName}
use Rattle.fidl_verify.specs.Runs.{AreSeen}
use Rattle.fidl_verify.proofs.entry.rows_have_names.Given as goal

abbrev pub invariant-loop-index : goal.invariant-loop-index
invariant-loop-index l = record {
  kept : (k : ℕ) → l.first + k < l.index → let r = row_at l.table.bytes.now l.table.header (l.first + k) in IsMemberName l.table.bytes.now l.table.header r.name_place r.name_length;
  seen : AreSeen l.table.bytes.now l.table.header l.seen;
}
