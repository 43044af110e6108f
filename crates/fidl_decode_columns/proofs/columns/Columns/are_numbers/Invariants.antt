use Rattle.fidl_decode_columns.specs.Columns.{AreNumbers}
use Rattle.fidl_decode_columns.proofs.columns.Columns.are_numbers.Given as goal

-- the members of the rows that were looked at are numbers
abbrev pub invariant-loop-i : goal.invariant-loop-i
invariant-loop-i l = AreNumbers l.self.table.now l.first l.i
