use Rattle.std.proofs.Common.{◌≡◌, ◌++◌, map, drop}
use Rattle.fidl_tree.specs.Views.{value_member_view}
use Rattle.fidl_named.specs.MemberNames.{value_names}
use Rattle.fidl_names.proofs.member_lists.push_values.Given as goal

-- the names so far and those to come are all
abbrev pub invariant-loop-member : goal.invariant-loop-member
invariant-loop-member l =
    l.names.items ++ value_names (map value_member_view (drop l.member-index l.members))
    ≡ value_names (map value_member_view l.members)
