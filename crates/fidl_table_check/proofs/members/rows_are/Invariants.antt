use Rattle.std.proofs.Common.{◌≡◌, ℕ, ◌<◌, Some, slice_get, map}
use Rattle.fidl_ir.specs.declared.term.Row.{Row}
use Rattle.fidl_reachable_types.specs.Growing.{reference_view}
use Rattle.fidl_table_check.specs.Members.{IsRow}
use Rattle.fidl_table_check.proofs.members.rows_are.Given as goal

-- the members so far are the entry's rows
abbrev pub invariant-loop-place : goal.invariant-loop-place
invariant-loop-place l = (k : ℕ) (r : Row) → k < l.place → slice_get l.rows k ≡ Some r
    → IsRow (map reference_view l.types) l.table l.entry k r
