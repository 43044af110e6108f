use Rattle.std.proofs.Common.{◌≡◌, drop}
use Rattle.fidl_constraints.specs.Parts.{amount_in}
use Rattle.fidl_constraints.proofs.parts.amount_in.Given as goal

-- the number is that of the parts to come
abbrev pub invariant-loop-part : goal.invariant-loop-part
invariant-loop-part l = amount_in l.kind l.otherwise (drop l.part-index l.parts) ≡ amount_in l.kind l.otherwise l.parts
