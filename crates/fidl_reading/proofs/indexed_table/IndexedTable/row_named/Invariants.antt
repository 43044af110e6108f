use Rattle.fidl_reading.specs.Keys.{HasNoRow}
use Rattle.fidl_reading.proofs.indexed_table.IndexedTable.row_named.Given as goal

abbrev pub invariant-loop-k : goal.invariant-loop-k
invariant-loop-k l = HasNoRow l.fn.self l.first l.k l.name
