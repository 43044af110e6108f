use Rattle.std.proofs.Common.{◌-◌, ℕ, ◌^◌, ◌<◌, ◌≤◌}
use Rattle.fidl_table_format.specs.Section.{header_of}
use Rattle.fidl_table_format.specs.Entry.{row_key}
use Rattle.fidl_verify.proofs.member.search.Given as goal

-- the keys before `low` are less than the ordinal, and those from `high` on greater; each probe halves what is between
abbrev pub invariant-loop-low : goal.invariant-loop-low
invariant-loop-low l = record {
  order : l.low ≤ l.high;
  within : l.high ≤ l.entry.count;
  less : (k : ℕ) → k < l.low → row_key l.table (header_of l.table) l.entry k < l.ordinal;
  more : (k : ℕ) → l.high ≤ k → k < l.entry.count → l.ordinal < row_key l.table (header_of l.table) l.entry k;
  grows : l.fn.probes ≤ l.probes;
  few : l.probes - l.fn.probes ≤ 16;
  halves : l.high - l.low < 2 ^ (16 - (l.probes - l.fn.probes));
}

abbrev pub decreases-loop-low : goal.decreases-loop-low
decreases-loop-low l = l.high - l.low
