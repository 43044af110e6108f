use Rattle.std.proofs.Common.{take}
use Rattle.std.specs.List.{AllByRecursion}
use Rattle.fidl_cycles.specs.Cycles.{points_of}
use Rattle.fidl_composition.specs.Compositions.{ProtocolHolds}
use Rattle.fidl_composition.specs.Tables.{AreComposedRows}
use Rattle.fidl_composition.proofs.graph.composition_graph.Given as goal

-- the rows of the protocols so far
abbrev pub invariant-loop-id : goal.invariant-loop-id
invariant-loop-id l = record {
  rows : AreComposedRows l.named l.numbers.ids.items (take l.id-index l.numbers.ids.items) (points_of l.graph.items);
  holds : AllByRecursion (ProtocolHolds l.named) (take l.id-index l.numbers.ids.items);
}
