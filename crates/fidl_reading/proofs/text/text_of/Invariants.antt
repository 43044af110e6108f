use Rattle.std.proofs.Common.{length, ◌-◌, ◌≤◌, slice_range}
use Rattle.fidl_spelling.specs.Words.{Pieces}
use Rattle.fidl_reading.proofs.text.text_of.Given as goal

abbrev pub invariant-loop-at : goal.invariant-loop-at
invariant-loop-at l = record {
  behind : 1 ≤ l.at;
  within : l.at ≤ length l.word;
  front : Pieces (slice_range l.word 1 l.at) l.bytes.items;
}

abbrev pub decreases-loop-at : goal.decreases-loop-at
decreases-loop-at l = length l.word - l.at
