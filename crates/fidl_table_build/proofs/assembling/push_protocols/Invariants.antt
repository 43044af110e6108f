use Rattle.std.proofs.Common.{◌≡◌, ◌++◌, take, flat_map}
use Rattle.fidl_table_build.specs.Starts.{protocol_numbers}
use Rattle.fidl_table_build.proofs.assembling.push_protocols.Given as goal

abbrev pub invariant-loop-protocol : goal.invariant-loop-protocol
invariant-loop-protocol l = l.starts.items ≡ l.fn.starts.items ++ flat_map protocol_numbers (take l.protocol-index l.protocols)
