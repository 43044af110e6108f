use Rattle.std.proofs.Common.{◌-◌, ℕ, ◌+◌, ◌<◌, ◌≤◌}
use Rattle.fidl_table_format.specs.Method.{ordinal_at}
use Rattle.fidl_verify.proofs.methods.find_method.Given as goal

-- the ordinals before `low` are less than this one, and those from `high` on greater
abbrev pub invariant-loop-low : goal.invariant-loop-low
invariant-loop-low l = record {
  from : l.first ≤ l.low;
  order : l.low ≤ l.high;
  within : l.high ≤ l.end;
  less : (k : ℕ) → k < l.low - l.first → ordinal_at l.table.bytes.now l.table.header (l.first + k) < l.ordinal;
  more : (k : ℕ) → l.high - l.first ≤ k → k < l.end - l.first → l.ordinal < ordinal_at l.table.bytes.now l.table.header (l.first + k);
}

abbrev pub decreases-loop-low : goal.decreases-loop-low
decreases-loop-low l = l.high - l.low
