use Rattle.std.proofs.Common.{◌≡◌, ◌++◌}
use Rattle.fidl_table_format.specs.Section.{header_of}
use Rattle.fidl_table_format.specs.Terms.{span, underlying, values_from}
use Rattle.fidl_migrate.proofs.values.behind_range.Given as goal

-- the values before this place, and those that are missing, are those before the first place and
-- those of the range
abbrev pub invariant-loop-place : goal.invariant-loop-place
invariant-loop-place l =
    values_from l.table (header_of l.table) (underlying l.entry) l.entry.first l.place ++ span l.next l.highest
    ≡ values_from l.table (header_of l.table) (underlying l.entry) l.entry.first l.from ++ span l.lowest l.highest
