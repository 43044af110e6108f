use Rattle.std.proofs.Common.{ℕ, ◌-◌, ◌<◌, ◌≤◌, length, get_or}
use Rattle.fidl_script.specs.Script.{Replies}
use Rattle.fidl_serve.proofs.method.method_place.Given as goal

-- the ordinals before `low` are less than this one, and those from `high` on greater
abbrev pub invariant-loop-low : goal.invariant-loop-low
invariant-loop-low l = record {
  within : l.high ≤ length l.methods;
  less : (d : Replies) (k : ℕ) → k < l.low → (get_or l.methods k d).ordinal < l.ordinal;
  more : (d : Replies) (k : ℕ) → l.high ≤ k → k < length l.methods → l.ordinal < (get_or l.methods k d).ordinal;
}

abbrev pub decreases-loop-low : goal.decreases-loop-low
decreases-loop-low l = l.high - l.low
