use Rattle.std.proofs.Common.{take}
use Rattle.std.specs.List.{AllByRecursion}
use Rattle.fidl_named.specs.PlaceViews.{name_places_view}
use Rattle.fidl_names.specs.Resolved.{PlaceHolds}
use Rattle.fidl_names.proofs.place_names.check_declaration.Given as goal

-- the places so far hold
abbrev pub invariant-loop-place : goal.invariant-loop-place
invariant-loop-place l = AllByRecursion (PlaceHolds l.scope.named.now l.scope.file.now) (take l.place-index (name_places_view l.place-items))
