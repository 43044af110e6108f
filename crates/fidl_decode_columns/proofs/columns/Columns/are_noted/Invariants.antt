use Rattle.std.proofs.Common.{◌≡◌, ℕ, ◌+◌, ◌*◌, ◌%◌, ◌<◌}
use Rattle.std.specs.Prelude.{false, IsTrue, slice_index_or, bit_or}
use Rattle.fidl_table_format.specs.Number.{number_standing}
use Rattle.fidl_table_format.specs.Terms.{as_number, value_number}
use Rattle.fidl_decode_columns.specs.Columns.{place_of}
use Rattle.fidl_decode_columns.proofs.columns.Columns.are_noted.Given as goal

-- the numbers before this one have no bit that was not seen, and each is noted, if all are
abbrev pub invariant-loop-i : goal.invariant-loop-i
invariant-loop-i l = record {
  start : l.start ≡ l.column.base + l.column.size * l._i;
  before : (k : ℕ) → k < l._i → (n : ℕ) × (value_number (as_number l.kind) n ≡ number_standing (as_number l.kind) l.self.links.now.came (place_of l.column k)) × (bit_or n l.seen ≡ l.seen) × (IsTrue l.all → IsTrue (slice_index_or l.noted (n % 256) false));
}
