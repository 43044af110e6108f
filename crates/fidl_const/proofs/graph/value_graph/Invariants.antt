use Rattle.std.proofs.Common.{take}
use Rattle.fidl_cycles.specs.Cycles.{points_of}
use Rattle.fidl_const.specs.Columns.{AreRows}
use Rattle.fidl_const.proofs.graph.value_graph.Given as goal

-- the rows so far
abbrev pub invariant-loop-meaning : goal.invariant-loop-meaning
invariant-loop-meaning l = AreRows l.named (take l.meaning-index l.numbers.nodes.items) l.numbers.starts.items (points_of l.graph.items)
