use Rattle.fidl_cycles.specs.Cycles.{points_of}
use Rattle.fidl_composition.specs.Tables.{AreNumberedTo}
use Rattle.fidl_composition.proofs.protocols.number_protocols.Given as goal

-- the protocols of the files so far
abbrev pub invariant-loop-file_index : goal.invariant-loop-file_index
invariant-loop-file_index l = AreNumberedTo l.named l.file_index l.ids.items (points_of l.rows.items)
