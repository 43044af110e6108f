use Rattle.std.proofs.Common.{◌≡◌, ◌++◌, drop, map}
use Rattle.std.specs.Prelude.{flat_map}
use Rattle.fidl_constraints.specs.Items.{items_of}
use Rattle.fidl_constraints.specs.BehindViews.{given_view}
use Rattle.fidl_constraints.specs.ItemViews.{items_view}
use Rattle.fidl_constraints.proofs.items.all_items.Given as goal

-- the constraints so far and those of the lists to come are all
abbrev pub invariant-loop-given : goal.invariant-loop-given
invariant-loop-given l =
    items_view l.found.items ++ flat_map (items_of l.named) (map given_view (drop l.given-index l.lists))
    ≡ flat_map (items_of l.named) (map given_view l.lists)
