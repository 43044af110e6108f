use Rattle.fidl_reading.specs.Found.{Finds}
use Rattle.fidl_reading.proofs.named_rows.rows_by_name.Given as goal

abbrev pub invariant-loop-k : goal.invariant-loop-k
invariant-loop-k l = Finds l.table l.first l.k l.rows
