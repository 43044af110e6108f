use Rattle.std.proofs.Common.{◌≡◌, drop}
use Rattle.fidl_constraints.specs.Parts.{has_kind}
use Rattle.fidl_constraints.proofs.parts.has_kind.Given as goal

-- one of the parts is of the kind where one of those to come is
abbrev pub invariant-loop-part : goal.invariant-loop-part
invariant-loop-part l = has_kind l.kind (drop l.part-index l.parts) ≡ has_kind l.kind l.parts
