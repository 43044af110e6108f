use Rattle.std.proofs.Common.{◌≡◌, ◌++◌, map, drop}
use Rattle.fidl_named.specs.declared.meaning.Wanted.TheVariants as wanted
use Rattle.fidl_named.specs.Places.{a_name}
use Rattle.fidl_named.specs.ReferenceViews.{paths_view}
use Rattle.fidl_named.specs.PlaceViews.{name_places_view}
use Rattle.fidl_named.proofs.places.push_value.Given as goal

-- the places so far and those of the paths to come are all
abbrev pub invariant-loop-path : goal.invariant-loop-path
invariant-loop-path l =
    name_places_view l.places.items ++ map (a_name wanted.Value) (paths_view (drop l.path-index l.path-items))
    ≡ name_places_view l.fn.places.items ++ map (a_name wanted.Value) (paths_view l.path-items)
