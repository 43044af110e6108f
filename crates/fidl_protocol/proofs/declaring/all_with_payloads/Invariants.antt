use Rattle.std.proofs.Common.{take}
use Rattle.std.specs.List.{AllZip}
use Rattle.fidl_protocol.specs.Gathered.{IsMade}
use Rattle.fidl_protocol.proofs.declaring.all_with_payloads.Given as goal

-- the methods so far
abbrev pub invariant-loop-own : goal.invariant-loop-own
invariant-loop-own l = AllZip (IsMade l.types l.found) (take l.own-index l.owns) l.methods.items
