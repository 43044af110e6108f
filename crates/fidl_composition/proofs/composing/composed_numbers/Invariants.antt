use Rattle.std.proofs.Common.{ℕ, take}
use Rattle.std.specs.Prelude.{◌↔◌}
use Rattle.std.specs.List.{Contains, Any, AllByRecursion}
use Rattle.fidl_tree.specs.Views.{openness_view, protocol_member_view}
use Rattle.fidl_composition.specs.Tables.{IsTargetBy, MemberHolds}
use Rattle.fidl_composition.proofs.composing.composed_numbers.Given as goal

-- what the members so far compose
abbrev pub invariant-loop-member : goal.invariant-loop-member
invariant-loop-member l = record {
  numbers : (t : ℕ) → Contains l.row.items t ↔ Any (λ m. IsTargetBy l.scope.named.now l.scope.id.file l.scope.numbers.now.ids.items (protocol_member_view m) t) (take l.member-index l.member-items);
  holds : AllByRecursion (λ m. MemberHolds l.scope.named.now l.scope.id.file (openness_view l.scope.protocol.now.openness) (protocol_member_view m)) (take l.member-index l.member-items);
}
