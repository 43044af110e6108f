use Rattle.fidl_names.proofs.Numbering.{AreNumberedTo}
use Rattle.fidl_names.proofs.declaration_numbers.number_declarations.Given as goal

-- the same of the files so far
abbrev pub invariant-loop-file_index : goal.invariant-loop-file_index
invariant-loop-file_index l = AreNumberedTo l.set l.file_index l.ids.items l.starts.items
