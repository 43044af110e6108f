use Rattle.std.proofs.Common.{◌≤◌}
use Rattle.std.specs.List.{AllAdjacentBelow}
use Rattle.fidl_protocol.proofs.Ordering.{IsBelow}
use Rattle.fidl_protocol.proofs.ordinals.two_of_one_ordinal.Given as goal

-- each of the first methods has a greater ordinal than the one before it
abbrev pub invariant-loop-index : goal.invariant-loop-index
invariant-loop-index l = record {
  some : 1 ≤ l.index;
  rise : AllAdjacentBelow IsBelow l.methods l.index;
}
