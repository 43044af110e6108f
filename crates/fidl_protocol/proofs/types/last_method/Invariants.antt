use Rattle.std.proofs.Common.{take}
use Rattle.std.specs.Prelude.{IfSome}
use Rattle.fidl_protocol.proofs.Starting.{StandsIn}
use Rattle.fidl_protocol.proofs.types.last_method.Given as goal

-- what was found is a method of one of the protocols so far
abbrev pub invariant-loop-protocol : goal.invariant-loop-protocol
invariant-loop-protocol l = IfSome l.found (StandsIn (take l.protocol-index l.protocols))
