use Rattle.std.proofs.Common.{◌≡◌, ℕ, ◌<◌}
use Rattle.fidl_table_format.specs.Section.{header_of, row_at}
use Rattle.fidl_migrate.proofs.keeping.keeps_rows.Given as goal

-- the rows so far are the same
abbrev pub invariant-loop-index : goal.invariant-loop-index
invariant-loop-index l = (k : ℕ) → k < l.index → row_at l.new (header_of l.new) k ≡ row_at l.old (header_of l.old) k
