use Rattle.std.proofs.Common.{ℕ, length, ◌-◌, ◌≢◌, ◌<◌, ◌≤◌, get_or}
use Rattle.fidl_consts.proofs.strings.brace_place.Given as goal

abbrev pub invariant-loop-place : goal.invariant-loop-place
invariant-loop-place l = record {
  within : l.place ≤ length l.text;
  before : (k : ℕ) → k < l.place → get_or l.text k 0 ≢ 125;
}

abbrev pub decreases-loop-place : goal.decreases-loop-place
decreases-loop-place l = length l.text - l.place
