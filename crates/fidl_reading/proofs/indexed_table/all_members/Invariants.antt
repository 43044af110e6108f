use Rattle.std.proofs.Common.{◌≡◌, ◌<◌, ℕ, length, get_or}
use Rattle.std.specs.Prelude.{None}
use Rattle.fidl_table_format.specs.Section.{entry_at}
use Rattle.fidl_reading.specs.Found.{FindsOf}
use Rattle.fidl_reading.proofs.indexed_table.all_members.Given as goal

abbrev pub invariant-loop-index : goal.invariant-loop-index
invariant-loop-index l = record {
  long : length l.members.items ≡ l.index;
  found : (i : ℕ) → i < l.index → FindsOf l.table (entry_at l.table i) (get_or l.members.items i None);
}
