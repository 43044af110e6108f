use Rattle.fidl_const.proofs.NumberedNodes.{AreNumberedTo}
use Rattle.fidl_const.proofs.nodes.number_nodes.Given as goal

-- those of the files so far
abbrev pub invariant-loop-file_index : goal.invariant-loop-file_index
invariant-loop-file_index l = AreNumberedTo l.named l.file_index l.nodes.items l.starts.items
