use Rattle.std.proofs.Common.{◌≢◌, ℕ, ◌<◌}
use Rattle.fidl_table_format.specs.Root.{root_name}
use Rattle.fidl_verify.proofs.roots.find_root.Given as goal

abbrev pub invariant-loop-index : goal.invariant-loop-index
invariant-loop-index l = (k : ℕ) → k < l.index → root_name l.table.bytes.now l.table.header k ≢ l.name
