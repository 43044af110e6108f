use Rattle.std.proofs.Common.{◌≡◌, ℕ, ◌+◌, ◌*◌, ◌<◌, ◌≤◌, get_or}
use Rattle.fidl_decode_columns.specs.Columns.{place_of}
use Rattle.fidl_decode_columns.proofs.columns.Columns.first_no_bool.Given as goal

-- the bools before this one are 0 or 1
abbrev pub invariant-loop-i : goal.invariant-loop-i
invariant-loop-i l = record {
  start : l.start ≡ l.column.base + l.column.size * l.i;
  before : (k : ℕ) → k < l.i → get_or l.self.links.now.came (place_of l.column k) 0 ≤ 1;
}
