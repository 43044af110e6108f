use Rattle.std.proofs.Common.{take}
use Rattle.std.specs.List.{AllByRecursion}
use Rattle.fidl_tree.specs.Views.{protocol_member_view}
use Rattle.fidl_tree.specs.declared.protocol.ProtocolMember.{ProtocolMember}
use Rattle.fidl_composition.proofs.Finding.{NoWay}
use Rattle.fidl_composition.proofs.way.way_to.Given as goal

-- none of the members so far is a way
abbrev pub invariant-loop-member : goal.invariant-loop-member
invariant-loop-member l = AllByRecursion (λ (m : ProtocolMember). NoWay l.named l.from.file (protocol_member_view m) l.to) (take l.member-index l.member-items)
