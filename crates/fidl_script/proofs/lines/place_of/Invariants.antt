use Rattle.std.proofs.Common.{length, take, ◌-◌, ◌≤◌}
use Rattle.fidl_script.specs.Phrases.{HasNo}
use Rattle.fidl_script.proofs.lines.place_of.Given as goal

abbrev pub invariant-loop-place : goal.invariant-loop-place
invariant-loop-place l = record {
  within : l.place ≤ length l.bytes;
  before : HasNo l.byte (take l.place l.bytes);
}

abbrev pub decreases-loop-place : goal.decreases-loop-place
decreases-loop-place l = length l.bytes - l.place
