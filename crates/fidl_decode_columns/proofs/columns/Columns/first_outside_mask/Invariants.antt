use Rattle.std.proofs.Common.{◌≡◌, ℕ, ◌+◌, ◌*◌, ◌<◌}
use Rattle.fidl_wire.specs.Typed.{InMask}
use Rattle.fidl_table_format.specs.Number.{number_standing}
use Rattle.fidl_table_format.specs.Terms.{as_number}
use Rattle.fidl_decode_columns.specs.Columns.{place_of}
use Rattle.fidl_decode_columns.proofs.columns.Columns.first_outside_mask.Given as goal

-- the numbers before this one have no bit outside the mask
abbrev pub invariant-loop-i : goal.invariant-loop-i
invariant-loop-i l = record {
  start : l.start ≡ l.column.base + l.column.size * l.i;
  before : (k : ℕ) → k < l.i → InMask l.mask (number_standing (as_number l.kind) l.self.links.now.came (place_of l.column k));
}
