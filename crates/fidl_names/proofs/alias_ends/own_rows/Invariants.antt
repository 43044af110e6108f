use Rattle.fidl_named.specs.Aliases.{rows_of}
use Rattle.fidl_names.proofs.MeaningRows.{AreRowsTo}
use Rattle.fidl_names.proofs.alias_ends.own_rows.Given as goal

-- the rows of the files so far
abbrev pub invariant-loop-file_index : goal.invariant-loop-file_index
invariant-loop-file_index l = AreRowsTo l.set l.file_index (rows_of l.rows.items)
