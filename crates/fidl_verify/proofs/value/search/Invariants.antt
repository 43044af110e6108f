use Rattle.std.proofs.Common.{◌-◌, ℕ, ◌^◌, ◌<◌, ◌≤◌}
use Rattle.std.specs.Prelude.{◌<ℤ◌}
use Rattle.fidl_table_format.specs.Section.{header_of}
use Rattle.fidl_table_format.specs.Terms.{underlying, value_number}
use Rattle.fidl_table_format.specs.Entry.{lowest_value, highest_value}
use Rattle.fidl_verify.proofs.value.search.Given as goal

-- the ranges before `low` are less than the number, and those from `high` on greater; each probe halves what is between
abbrev pub invariant-loop-low : goal.invariant-loop-low
invariant-loop-low l = record {
  order : l.low ≤ l.high;
  within : l.high ≤ l.entry.count;
  less : (k : ℕ) → k < l.low → highest_value l.table (header_of l.table) l.entry k <ℤ value_number (underlying l.entry) l.number;
  more : (k : ℕ) → l.high ≤ k → k < l.entry.count → value_number (underlying l.entry) l.number <ℤ lowest_value l.table (header_of l.table) l.entry k;
  grows : l.fn.probes ≤ l.probes;
  few : l.probes - l.fn.probes ≤ 16;
  halves : l.high - l.low < 2 ^ (16 - (l.probes - l.fn.probes));
}

abbrev pub decreases-loop-low : goal.decreases-loop-low
decreases-loop-low l = l.high - l.low
