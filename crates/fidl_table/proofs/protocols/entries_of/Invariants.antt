use Rattle.std.proofs.Common.{take}
use Rattle.std.specs.List.{AllZip}
use Rattle.fidl_table.specs.Listed.{IsProtocolEntry}
use Rattle.fidl_table.proofs.protocols.entries_of.Given as goal

-- the protocols so far
abbrev pub invariant-loop-protocol : goal.invariant-loop-protocol
invariant-loop-protocol l = AllZip (IsProtocolEntry l.named) (take l.protocol-index l.protocols) l.entries.items
