use Rattle.std.proofs.Common.{◌≡◌, ◌++◌, drop, map}
use Rattle.std.specs.Prelude.{flat_map}
use Rattle.fidl_tree.specs.Views.{protocol_member_view}
use Rattle.fidl_names.specs.MemberLists.{held, protocol_lists}
use Rattle.fidl_names.proofs.member_lists.push_protocol.Given as goal

-- the lists so far and those of the members to come are all
abbrev pub invariant-loop-member : goal.invariant-loop-member
invariant-loop-member l =
    held l.lists.items ++ flat_map protocol_lists (map protocol_member_view (drop l.member-index l.members))
    ≡ held l.fn.lists.items ++ flat_map protocol_lists (map protocol_member_view l.members)
