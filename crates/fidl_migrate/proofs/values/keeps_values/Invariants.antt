use Rattle.std.proofs.Common.{◌≡◌}
use Rattle.fidl_table_format.specs.Section.{header_of}
use Rattle.fidl_table_format.specs.Terms.{underlying, values_from}
use Rattle.fidl_migrate.proofs.values.keeps_values.Given as goal

-- the values of the ranges so far are those before the place in the other table
abbrev pub invariant-loop-index : goal.invariant-loop-index
invariant-loop-index l =
    values_from l.new (header_of l.new) (underlying l.before) l.after.first l.index
    ≡ values_from l.old (header_of l.old) (underlying l.before) l.before.first l.place
