use Rattle.std.proofs.Common.{map, take}
use Rattle.fidl_wire.specs.Term as ty
use Rattle.fidl_reachable_types.specs.Growing.{GrowsBy}
use Rattle.fidl_reachable_types.proofs.reach.add_roots.Given as goal

-- the roots so far are in the list
abbrev pub invariant-loop-root : goal.invariant-loop-root
invariant-loop-root l = GrowsBy l.fn.list l.list (map ty.named (take l.root-index l.roots))
