use Rattle.std.proofs.Common.{ℕ, ◌<◌}
use Rattle.fidl_table_format.specs.Entry.{IsOrdinal}
use Rattle.fidl_verify.proofs.ordinal.are_ordinals.Given as goal

abbrev pub invariant-loop-place : goal.invariant-loop-place
invariant-loop-place l = (k : ℕ) → k < l.place → IsOrdinal l.table.bytes.now l.table.header l.entry k
