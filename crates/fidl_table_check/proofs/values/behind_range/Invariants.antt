use Rattle.std.proofs.Common.{◌≡◌, ℕ, ◌<◌, ℤ, pos, Some, slice_get}
use Rattle.std.specs.Prelude.{◌+ℤ◌, ◌≤ℤ◌}
use Rattle.fidl_table_check.proofs.values.behind_range.Given as goal

-- the values so far are the first of the range, and the next number is one of it
abbrev pub invariant-loop-place : goal.invariant-loop-place
invariant-loop-place l = record {
  number : l.number ≡ l.lowest +ℤ pos l.place;
  order : l.number ≤ℤ l.highest;
  before : (k : ℕ) (z : ℤ) → k < l.place → slice_get l.values k ≡ Some z → z ≡ l.lowest +ℤ pos k;
}
