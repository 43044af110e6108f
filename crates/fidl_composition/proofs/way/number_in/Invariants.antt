use Rattle.std.proofs.Common.{take}
use Rattle.std.specs.List.{Contains}
use Rattle.fidl_composition.proofs.way.number_in.Given as goal

-- none of the ids so far is the one
abbrev pub invariant-loop-number : goal.invariant-loop-number
invariant-loop-number l = Contains (take l.number l.ids) l.id → ⊥
