use Rattle.fidl_decode_values.specs.Reading.{message}
use Rattle.std.proofs.Common.{◌≡◌, ℕ, ◌-◌, ◌<◌, ◌≤◌, length}
use Rattle.std.specs.Prelude.{slice_index_or}
use Rattle.fidl_decode_members.specs.Members.{IsMember, unnoted}
use Rattle.fidl_decode_members.proofs.members.Members.look_up.Given as goal

-- so many members are noted, as they are
abbrev pub invariant-loop-count : goal.invariant-loop-count
invariant-loop-count l = record {
  few : l.count ≤ l.e.count;
  long : length l.members ≡ 32;
  each : (i : ℕ) → i < l.count → IsMember l.decoder.table.now (message l.decoder) l.entry i (slice_index_or l.members i unnoted);
}

abbrev pub decreases-loop-count : goal.decreases-loop-count
decreases-loop-count l = l.e.count - l.count
