use Rattle.std.proofs.Common.{◌≡◌, ℕ, ◌+◌, ◌*◌, ◌<◌}
use Rattle.std.specs.Prelude.{◌≤ℤ◌}
use Rattle.fidl_table_format.specs.Number.{number_standing}
use Rattle.fidl_table_format.specs.Terms.{as_number, value_number}
use Rattle.fidl_decode_columns.specs.Columns.{place_of}
use Rattle.fidl_decode_columns.proofs.columns.Columns.first_outside_range.Given as goal

-- the numbers before this one are in the range
abbrev pub invariant-loop-i : goal.invariant-loop-i
invariant-loop-i l = record {
  start : l.start ≡ l.column.base + l.column.size * l.i;
  before : (k : ℕ) → k < l.i → (value_number (as_number l.kind) l.range.lowest ≤ℤ number_standing (as_number l.kind) l.self.links.now.came (place_of l.column k)) × (number_standing (as_number l.kind) l.self.links.now.came (place_of l.column k) ≤ℤ value_number (as_number l.kind) l.range.highest);
}
