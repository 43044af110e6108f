use Rattle.std.proofs.Common.{◌≡◌, map, drop}
use Rattle.fidl_tree.specs.Syntax.{members_of}
use Rattle.fidl_tree.specs.Views.{ordinal_member_view}
use Rattle.fidl_named.specs.MemberNames.{own_names}
use Rattle.fidl_member_rules.proofs.strict.are_reserved.Given as goal

-- the members to come have all names
abbrev pub invariant-loop-member : goal.invariant-loop-member
invariant-loop-member l =
    own_names (members_of (map ordinal_member_view (drop l.member-index l.members)))
    ≡ own_names (members_of (map ordinal_member_view l.members))
