use Rattle.std.proofs.Common.{◌≡◌, ◌++◌, drop, map}
use Rattle.fidl_tree.specs.Syntax.{members_of}
use Rattle.fidl_tree.specs.Views.{property_view}
use Rattle.fidl_named.specs.Spots.{members_spots}
use Rattle.fidl_named.specs.Places.{places_of}
use Rattle.fidl_named.specs.PlaceViews.{name_places_view}
use Rattle.fidl_named.proofs.places.push_properties.Given as goal

-- the places so far and those of the properties to come are all
abbrev pub invariant-loop-property : goal.invariant-loop-property
invariant-loop-property l =
    name_places_view l.places.items
    ++ places_of (members_spots (members_of (map property_view (drop l.property-index l.properties))))
    ≡ name_places_view l.fn.places.items ++ places_of (members_spots (members_of (map property_view l.properties)))
