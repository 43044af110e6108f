use Rattle.std.proofs.Common.{take}
use Rattle.fidl_named.specs.ReferenceViews.{value_list_view}
use Rattle.fidl_consts.specs.Tables.{AreLimits}
use Rattle.fidl_const.specs.Columns.{IsOwnConstraint}
use Rattle.fidl_const.proofs.bounds.own_limits.Given as goal

-- the limits so far are those of the constraints so far
abbrev pub invariant-loop-value : goal.invariant-loop-value
invariant-loop-value l = AreLimits l.scope.file.named.now (IsOwnConstraint l.scope.file.file_index l.scope.file.tree.now (take l.value-index (value_list_view l.value-items))) l.limits
