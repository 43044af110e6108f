use Rattle.fidl_decode_model.specs.Invariants.{AreLeaves}
use Rattle.fidl_decode_values.proofs.decoder.Decoder.are_leaves.Given as goal

-- the members of the rows that were looked at are leaves
abbrev pub invariant-loop-i : goal.invariant-loop-i
invariant-loop-i l = AreLeaves l.self.table.now l.first l.i
