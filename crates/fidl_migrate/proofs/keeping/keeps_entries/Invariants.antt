use Rattle.std.proofs.Common.{ℕ, ◌<◌}
use Rattle.fidl_table_format.specs.Section.{entry_at}
use Rattle.fidl_migrate.specs.Kept.{KeepsEntry}
use Rattle.fidl_migrate.proofs.keeping.keeps_entries.Given as goal

-- the entries so far are kept
abbrev pub invariant-loop-index : goal.invariant-loop-index
invariant-loop-index l = (k : ℕ) → k < l.index → KeepsEntry l.old l.new (entry_at l.old k) (entry_at l.new k)
