use Rattle.std.proofs.Common.{take}
use Rattle.fidl_names.specs.AliasGraph.{AreRows}
use Rattle.fidl_cycles.specs.Cycles.{points_of}
use Rattle.fidl_names.proofs.alias_graph.alias_graph.Given as goal

-- the rows so far
abbrev pub invariant-loop-id : goal.invariant-loop-id
invariant-loop-id l = AreRows l.names.set.now l.numbers.starts.items (take l.id-index l.numbers.ids.items) (points_of l.graph.items)
