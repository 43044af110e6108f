use Rattle.std.proofs.Common.{◌≡◌, ◌++◌, take, flat_map}
use Rattle.fidl_protocol.specs.Gathered.{protocol_payloads}
use Rattle.fidl_protocol.proofs.starts.push_protocols.Given as goal

abbrev pub invariant-loop-protocol : goal.invariant-loop-protocol
invariant-loop-protocol l = l.starts.items ≡ l.fn.starts.items ++ flat_map protocol_payloads (take l.protocol-index l.protocols)
