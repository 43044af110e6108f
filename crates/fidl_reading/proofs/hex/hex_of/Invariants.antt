use Rattle.std.proofs.Common.{length, ◌-◌, ◌≤◌, ◌≡◌, ◌*◌, slice_range}
use Rattle.fidl_spelling.specs.Spells.{IsHex}
use Rattle.fidl_reading.proofs.hex.hex_of.Given as goal

abbrev pub invariant-loop-at : goal.invariant-loop-at
invariant-loop-at l = record {
  within : l.at ≤ length l.word;
  even : l.at ≡ length l.bytes.items * 2;
  front : IsHex l.bytes.items (slice_range l.word 0 l.at);
}

abbrev pub decreases-loop-at : goal.decreases-loop-at
decreases-loop-at l = length l.word - l.at
