use Rattle.std.proofs.Common.{map, take}
use Rattle.fidl_tree.specs.Views.{value_member_view}
use Rattle.fidl_names.specs.Resolved.{MembersMean}
use Rattle.fidl_names.proofs.place_names.check_value_members.Given as goal

-- each name in the values of the members so far means something
abbrev pub invariant-loop-member : goal.invariant-loop-member
invariant-loop-member l = MembersMean l.scope.named.now l.scope.file.now (take l.member-index (map value_member_view l.members))
