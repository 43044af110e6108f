use Rattle.std.proofs.Common.{map, take}
use Rattle.std.specs.List.{AllByRecursion}
use Rattle.fidl_tree.specs.Views.{value_member_view}
use Rattle.fidl_consts.specs.Places.{MemberHolds}
use Rattle.fidl_const.proofs.places.check_members.Given as goal

-- the members so far have values
abbrev pub invariant-loop-member : goal.invariant-loop-member
invariant-loop-member l = AllByRecursion (MemberHolds l.scope.file.named.now l.scope.file.tree.now l.kind) (take l.member-index (map value_member_view l.members))
