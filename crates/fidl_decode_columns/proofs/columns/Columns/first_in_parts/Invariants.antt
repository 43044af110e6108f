use Rattle.std.proofs.Common.{ℕ, ◌+◌, ◌-◌, ◌*◌, ◌<◌, ◌≤◌}
use Rattle.std.specs.Prelude.{Contains}
use Rattle.fidl_table_format.specs.Number.{number_standing}
use Rattle.fidl_table_format.specs.Section.{header_of, entry_at}
use Rattle.fidl_table_format.specs.Terms.{underlying, values_from}
use Rattle.fidl_decode_columns.specs.Columns.{place_of, AreValues}
use Rattle.fidl_decode_columns.proofs.columns.Columns.first_in_parts.Given as goal

abbrev pub decreases-loop-done : goal.decreases-loop-done
decreases-loop-done l = l.limit - l.done

-- the numbers of the parts before this one are values
abbrev pub invariant-loop-done : goal.invariant-loop-done
invariant-loop-done l = record {
  within : l.done ≤ l.limit;
  before : (k : ℕ) → k < l.done → Contains (values_from l.self.table.now (header_of l.self.table.now) (underlying (entry_at l.self.table.now l.entry)) (entry_at l.self.table.now l.entry).first (entry_at l.self.table.now l.entry).count) (number_standing (underlying (entry_at
      l.self.table.now l.entry)) l.self.links.now.came (place_of l.column k));
  noted : AreValues l.self.table.now l.entry l.noted;
  grows : l.fn.steps ≤ l.steps;
  cost : l.steps ≤ l.fn.steps + 16 * l.done;
}
