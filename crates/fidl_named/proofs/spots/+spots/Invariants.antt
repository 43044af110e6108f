-- In each loop the spots so far and those of the parts to come are all spots.
use Rattle.std.proofs.Common.{◌≡◌, ◌++◌, map, drop}
use Rattle.std.specs.Prelude.{None}
use Rattle.fidl_tree.specs.Syntax.{arguments_of, members_of}
use Rattle.fidl_tree.specs.Views.{next_argument_view, member_view, ordinal_member_view}
use Rattle.fidl_named.specs.Spots.{further_spots, members_spots}
use Rattle.fidl_named.specs.SpotViews.{spots_view}
use Rattle.fidl_named.proofs.spots.+spots.Given as goal

abbrev pub invariant-push_others-loop-next : goal.invariant-push_others-loop-next
invariant-push_others-loop-next l =
    spots_view l.spots.items ++ further_spots None (arguments_of (map next_argument_view (drop l.next-index l.others)))
    ≡ spots_view l.fn.spots.items ++ further_spots None (arguments_of (map next_argument_view l.others))

abbrev pub invariant-push_members-loop-member : goal.invariant-push_members-loop-member
invariant-push_members-loop-member l =
    spots_view l.spots.items ++ members_spots (members_of (map member_view (drop l.member-index l.members)))
    ≡ spots_view l.fn.spots.items ++ members_spots (members_of (map member_view l.members))

abbrev pub invariant-push_ordinals-loop-member : goal.invariant-push_ordinals-loop-member
invariant-push_ordinals-loop-member l =
    spots_view l.spots.items ++ members_spots (members_of (map ordinal_member_view (drop l.member-index l.members)))
    ≡ spots_view l.fn.spots.items ++ members_spots (members_of (map ordinal_member_view l.members))
