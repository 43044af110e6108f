use Rattle.std.proofs.Common.{◌≢◌, ℕ, ◌+◌, ◌<◌}
use Rattle.fidl_members.specs.Entries.{row_name}
use Rattle.fidl_members.proofs.names.row_named.Given as goal

abbrev pub invariant-loop-at : goal.invariant-loop-at
invariant-loop-at l = (k : ℕ) → k < l.at → row_name l.table (l.first + k) ≢ l.name
