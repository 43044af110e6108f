use Rattle.std.proofs.Common.{◌≡◌, ◌++◌, map, drop}
use Rattle.fidl_tree.specs.Syntax.{members_of}
use Rattle.fidl_tree.specs.Views.{member_view}
use Rattle.fidl_named.specs.MemberNames.{own_names}
use Rattle.fidl_names.proofs.member_lists.push_names.Given as goal

-- the names so far and those to come are all
abbrev pub invariant-loop-member : goal.invariant-loop-member
invariant-loop-member l =
    l.names.items ++ own_names (members_of (map member_view (drop l.member-index l.members)))
    ≡ own_names (members_of (map member_view l.members))
