use Rattle.std.proofs.Common.{take}
use Rattle.std.specs.List.{AllByRecursion}
use Rattle.fidl_named.specs.PlaceViews.{name_places_view}
use Rattle.fidl_consts.specs.Places.{PlaceHolds}
use Rattle.fidl_const.proofs.places.check_declaration.Given as goal

-- the places so far have the values that they owe
abbrev pub invariant-loop-place : goal.invariant-loop-place
invariant-loop-place l = AllByRecursion (PlaceHolds l.scope.file.named.now l.scope.file.tree.now) (take l.place-index (name_places_view l.place-items))
