use Rattle.std.proofs.Common.{◌≡◌, ◌++◌, drop}
use Rattle.std.specs.Prelude.{flat_map}
use Rattle.fidl_named.specs.ReferenceViews.{value_list_view}
use Rattle.fidl_consts.specs.Dependencies.{value_uses}
use Rattle.fidl_const.specs.Columns.{name_uses_view}
use Rattle.fidl_const.proofs.graph.push_constraints.Given as goal

-- the names so far and those of the constraints to come are all
abbrev pub invariant-loop-value : goal.invariant-loop-value
invariant-loop-value l =
    name_uses_view l.uses.items ++ flat_map value_uses (value_list_view (drop l.value-index l.value-items))
    ≡ name_uses_view l.fn.uses.items ++ flat_map value_uses (value_list_view l.value-items)
