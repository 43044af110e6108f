use Rattle.std.proofs.Common.{◌≡◌, ◌++◌}
use Rattle.fidl_table_format.specs.Section.{header_of}
use Rattle.fidl_table_format.specs.Terms.{underlying, values_from}
use Rattle.fidl_table_check.proofs.values.values_are.Given as goal

-- the values before the rest are those of the ranges so far
abbrev pub invariant-loop-place : goal.invariant-loop-place
invariant-loop-place l = l.values ≡ values_from l.table (header_of l.table) (underlying l.entry) l.entry.first l.place ++ l.rest
