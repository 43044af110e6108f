use Rattle.std.proofs.Common.{◌≡◌, ◌++◌, drop, map}
use Rattle.std.specs.Prelude.{flat_map}
use Rattle.fidl_tree.specs.Views.{protocol_member_view}
use Rattle.fidl_named.specs.Places.{protocol_places}
use Rattle.fidl_named.specs.PlaceViews.{name_places_view}
use Rattle.fidl_named.proofs.places.push_protocol.Given as goal

-- the places so far and those of the members to come are all
abbrev pub invariant-loop-member : goal.invariant-loop-member
invariant-loop-member l =
    name_places_view l.places.items ++ flat_map protocol_places (map protocol_member_view (drop l.member-index l.members))
    ≡ name_places_view l.fn.places.items ++ flat_map protocol_places (map protocol_member_view l.members)
