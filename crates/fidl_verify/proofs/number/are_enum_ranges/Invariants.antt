use Rattle.std.proofs.Common.{ℕ, ◌<◌}
use Rattle.fidl_table_format.specs.Entry.{IsEnumRange}
use Rattle.fidl_verify.proofs.number.are_enum_ranges.Given as goal

abbrev pub invariant-loop-place : goal.invariant-loop-place
invariant-loop-place l = (k : ℕ) → k < l.place → IsEnumRange l.table.bytes.now l.table.header l.entry k
