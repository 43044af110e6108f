use Rattle.std.proofs.Common.{◌≤◌}
use Rattle.fidl_table_build.proofs.values.range_count.Given as goal

abbrev pub invariant-loop-place : goal.invariant-loop-place
invariant-loop-place l = l.count ≤ l.place
