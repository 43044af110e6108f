use Rattle.std.proofs.Common.{take, map}
use Rattle.fidl_tree.specs.Views.{file_view, openness_view, protocol_member_view}
use Rattle.fidl_method_rules.specs.Rules.{ProtocolHolds}
use Rattle.fidl_method_rules.specs.MethodViews.{AreMethods}
use Rattle.fidl_method_rules.proofs.methods.own_methods.Given as goal

-- the entries of the members so far, which hold
abbrev pub invariant-loop-number : goal.invariant-loop-number
invariant-loop-number l = record {
  ok : AreMethods (file_view l.file) l.protocol.name (take l.number (map protocol_member_view l.protocol.members.items)) l.owns.items;
  holds : ProtocolHolds (file_view l.file) (openness_view l.protocol.openness) l.protocol.name (take l.number (map protocol_member_view l.protocol.members.items));
}
