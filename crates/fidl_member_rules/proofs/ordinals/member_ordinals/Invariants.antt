use Rattle.std.proofs.Common.{◌≡◌, ◌++◌, map, drop}
use Rattle.fidl_tree.specs.Syntax.{members_of}
use Rattle.fidl_tree.specs.Views.{ordinal_member_view}
use Rattle.fidl_member_rules.specs.Ordinals.{member_ordinals}
use Rattle.fidl_member_rules.proofs.ordinals.member_ordinals.Given as goal

-- the ordinals so far and those to come are all
abbrev pub invariant-loop-member : goal.invariant-loop-member
invariant-loop-member l =
    l.found.items ++ member_ordinals (members_of (map ordinal_member_view (drop l.member-index l.members)))
    ≡ member_ordinals (members_of (map ordinal_member_view l.members))
