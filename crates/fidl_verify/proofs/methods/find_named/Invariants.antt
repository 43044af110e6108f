use Rattle.std.proofs.Common.{◌≢◌, ℕ, ◌<◌, ◌≤◌}
use Rattle.fidl_table_format.specs.Method.{method_name}
use Rattle.fidl_verify.proofs.methods.find_named.Given as goal

abbrev pub invariant-loop-index : goal.invariant-loop-index
invariant-loop-index l = (k : ℕ) → l.first ≤ k → k < l.index → method_name l.table.bytes.now l.table.header k ≢ l.name
