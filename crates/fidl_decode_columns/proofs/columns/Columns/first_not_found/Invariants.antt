use Rattle.std.proofs.Common.{◌≡◌, ℕ, ◌+◌, ◌*◌, ◌<◌, ◌≤◌}
use Rattle.std.specs.Prelude.{Contains}
use Rattle.fidl_table_format.specs.Number.{number_standing}
use Rattle.fidl_table_format.specs.Section.{header_of, entry_at}
use Rattle.fidl_table_format.specs.Terms.{underlying, values_from}
use Rattle.fidl_decode_columns.specs.Columns.{place_of, AreValues}
use Rattle.fidl_decode_columns.proofs.columns.Columns.first_not_found.Given as goal

-- the numbers before this one are values, each found by a search
abbrev pub invariant-loop-i : goal.invariant-loop-i
invariant-loop-i l = record {
  start : l.start ≡ l.column.base + l.column.size * l.i;
  before : (k : ℕ) → k < l.i → Contains (values_from l.self.table.now (header_of l.self.table.now) (underlying (entry_at l.self.table.now l.entry)) (entry_at l.self.table.now l.entry).first (entry_at l.self.table.now l.entry).count) (number_standing (underlying (entry_at
      l.self.table.now l.entry)) l.self.links.now.came (place_of l.column k));
  noted : AreValues l.self.table.now l.entry l.noted;
  grows : l.fn.steps ≤ l.steps;
  cost : l.steps ≤ l.fn.steps + 16 * l.i;
}
