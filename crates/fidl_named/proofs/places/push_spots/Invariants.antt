use Rattle.std.proofs.Common.{◌≡◌, ◌++◌, drop}
use Rattle.fidl_named.specs.Places.{places_of}
use Rattle.fidl_named.specs.PlaceViews.{name_places_view}
use Rattle.fidl_named.specs.SpotViews.{spots_view}
use Rattle.fidl_named.proofs.places.push_spots.Given as goal

-- the places so far and those among the spots to come are all
abbrev pub invariant-loop-spot : goal.invariant-loop-spot
invariant-loop-spot l =
    name_places_view l.places.items ++ places_of (spots_view (drop l.spot-index l.spots))
    ≡ name_places_view l.fn.places.items ++ places_of (spots_view l.spots)
