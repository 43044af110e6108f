use Rattle.std.proofs.Common.{◌≡◌, ℕ, ◌-◌, ◌%◌, ◌<◌, ◌≤◌, get_or}
use Rattle.fidl_decode_values.proofs.passing_texts.are_ascii.Given as goal

-- whole words before this place are ASCII
abbrev pub invariant-loop-at : goal.invariant-loop-at
invariant-loop-at l = record {
  after : l.from ≤ l.at;
  before : l.at ≤ l.end;
  whole : (l.end - l.at) % 8 ≡ 0;
  ascii : (k : ℕ) → l.from ≤ k → k < l.at → get_or l.bytes k 0 < 128;
}

abbrev pub decreases-loop-at : goal.decreases-loop-at
decreases-loop-at l = l.end - l.at
