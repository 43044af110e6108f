use Rattle.std.proofs.Common.{take}
use Rattle.fidl_constraints.specs.Parts.{GivenOnce}
use Rattle.fidl_constraints.specs.Gives.{EachGives}
use Rattle.fidl_constraints.specs.BehindViews.{head_view}
use Rattle.fidl_constraints.specs.ItemViews.{items_view}
use Rattle.fidl_constraints.proofs.gathering.all_parts.Given as goal

-- each constraint so far gives its part, none what another gives
abbrev pub invariant-loop-item : goal.invariant-loop-item
invariant-loop-item l = record {
  gives : EachGives l.scope.named.now (head_view l.head) (take l.item-index (items_view l.items)) l.list.items;
  once : GivenOnce l.list.items;
}
