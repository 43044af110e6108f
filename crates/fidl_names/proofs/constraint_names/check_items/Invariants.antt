use Rattle.std.proofs.Common.{ℕ, ◌≡◌, ◌<◌}
use Rattle.std.specs.Prelude.{slice_get, Some}
use Rattle.fidl_tree.specs.Syntax.{Value}
use Rattle.fidl_named.specs.Constraints.{ItemHolds}
use Rattle.fidl_named.specs.ReferenceViews.{value_list_view}
use Rattle.fidl_names.proofs.constraint_names.check_items.Given as goal

-- each name in the constraints so far means something
abbrev pub invariant-loop-rank : goal.invariant-loop-rank
invariant-loop-rank l =
    (i : ℕ) → i < l.rank → (v : Value) → slice_get (value_list_view l.value-items) i ≡ Some v
    → ItemHolds l.scope.named.now l.scope.file.now l.end i v
