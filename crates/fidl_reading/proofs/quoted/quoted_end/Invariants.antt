use Rattle.std.proofs.Common.{ℕ, List, ◌+◌, length, ◌-◌, ◌≤◌, slice_range}
use Rattle.fidl_spelling.specs.Words.{Pieces}
use Rattle.fidl_reading.proofs.quoted.quoted_end.Given as goal

abbrev pub invariant-loop-at : goal.invariant-loop-at
invariant-loop-at l = record {
  behind : l.quote + 1 ≤ l.at;
  within : l.at ≤ length l.text;
  front : (bytes : List ℕ) × Pieces (slice_range l.text (l.quote + 1) l.at) bytes;
}

abbrev pub decreases-loop-at : goal.decreases-loop-at
decreases-loop-at l = length l.text - l.at
