use Rattle.std.proofs.Common.{◌≡◌, ◌++◌, map, drop}
use Rattle.fidl_tree.specs.declared.constraint.NextConstraint.{NextConstraint}
use Rattle.fidl_tree.specs.Views.{value_view}
use Rattle.fidl_named.specs.ReferenceViews.{value_list_view}
use Rattle.fidl_named.proofs.places.push_items.Given as goal

-- the constraints so far and those to come are all
abbrev pub invariant-loop-next : goal.invariant-loop-next
invariant-loop-next l =
    value_list_view l.found.items ++ map (λ (n : NextConstraint). value_view n.value) (drop l.next-index l.constraints)
    ≡ value_list_view l.fn.found.items ++ map (λ (n : NextConstraint). value_view n.value) l.constraints
