use Rattle.std.proofs.Common.{ℕ, ◌≡◌, ◌<◌}
use Rattle.std.specs.Prelude.{slice_get, Some}
use Rattle.fidl_tree.specs.Syntax.{Value}
use Rattle.fidl_named.specs.ReferenceViews.{value_list_view}
use Rattle.fidl_consts.specs.Constraints.{ConstraintHolds}
use Rattle.fidl_const.proofs.constraints.check_constraints.Given as goal

-- the constraints so far have the values that they owe
abbrev pub invariant-loop-rank : goal.invariant-loop-rank
invariant-loop-rank l = (i : ℕ) → i < l.rank → (v : Value) → slice_get (value_list_view l.value-items) i ≡ Some v → ConstraintHolds l.scope.file.named.now l.scope.file.tree.now l.end i v
