use Rattle.std.proofs.Common.{◌≡◌, ◌++◌, drop}
use Rattle.fidl_names.specs.MemberLists.{held, lists_of}
use Rattle.fidl_named.specs.SpotViews.{spots_view}
use Rattle.fidl_names.proofs.member_lists.push_spots.Given as goal

-- the lists so far and those of the spots to come are all
abbrev pub invariant-loop-spot : goal.invariant-loop-spot
invariant-loop-spot l =
    held l.lists.items ++ lists_of (spots_view (drop l.spot-index l.spots))
    ≡ held l.fn.lists.items ++ lists_of (spots_view l.spots)
