use Rattle.fidl_protocol.proofs.Listing.{AreSoFar}
use Rattle.fidl_protocol.proofs.protocol_list.protocols_of.Given as goal

-- the protocols so far
abbrev pub invariant-loop-number : goal.invariant-loop-number
invariant-loop-number l = AreSoFar l.types l.compositions.0 l.number l.protocols.items
