use Rattle.std.proofs.Common.{◌≡◌, ℕ, ◌+◌, ◌*◌, ◌<◌}
use Rattle.std.specs.Prelude.{◌≤ℤ◌}
use Rattle.fidl_table_format.specs.Number.{number_standing}
use Rattle.fidl_table_format.specs.Terms.{as_number, value_number}
use Rattle.fidl_decode_columns.specs.Columns.{place_of}
use Rattle.fidl_decode_columns.proofs.columns.Columns.are_within_range.Given as goal

-- the numbers before this one are between the lowest and the highest
abbrev pub invariant-loop-i : goal.invariant-loop-i
invariant-loop-i l = record {
  start : l.start ≡ l.column.base + l.column.size * l._i;
  before : (k : ℕ) → k < l._i → (value_number (as_number l.kind) l.low ≤ℤ number_standing (as_number l.kind) l.self.links.now.came (place_of l.column k)) × (number_standing (as_number l.kind) l.self.links.now.came (place_of l.column k) ≤ℤ value_number (as_number l.kind) l.high);
}
