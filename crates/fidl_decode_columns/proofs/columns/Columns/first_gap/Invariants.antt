use Rattle.std.proofs.Common.{◌≡◌, ℕ, ◌+◌, ◌*◌, ◌<◌}
use Rattle.fidl_wire.specs.Encoding.{zeros}
use Rattle.fidl_wire.specs.Standing.{Stands}
use Rattle.fidl_decode_columns.specs.Columns.{place_of}
use Rattle.fidl_decode_columns.proofs.columns.Columns.first_gap.Given as goal

-- the gaps before this one are zeros
abbrev pub invariant-loop-element : goal.invariant-loop-element
invariant-loop-element l = record {
  start : l.start ≡ l.column.base + l.column.size * l.element;
  before : (k : ℕ) → k < l.element → Stands l.self.links.now.came (place_of l.column k) (zeros l.width);
}
