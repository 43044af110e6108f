use Rattle.std.proofs.Common.{take, map}
use Rattle.fidl_tree.specs.Views.{value_member_view}
use Rattle.fidl_member_rules.specs.Numbers.{NumbersAre}
use Rattle.fidl_member_rules.proofs.numbers.member_numbers.Given as goal

-- the numbers so far are those of the members so far
abbrev pub invariant-loop-member : goal.invariant-loop-member
invariant-loop-member l = NumbersAre l.scope.named.now l.scope.file.now l.kind (take l.member-index (map value_member_view l.members)) l.found.items
