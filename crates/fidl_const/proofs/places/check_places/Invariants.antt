use Rattle.std.proofs.Common.{take}
use Rattle.std.specs.List.{AllByRecursion}
use Rattle.fidl_consts.specs.Places.{PlacesHold}
use Rattle.fidl_const.proofs.places.check_places.Given as goal

-- the places of the files so far have the values that they owe
abbrev pub invariant-loop-file_index : goal.invariant-loop-file_index
invariant-loop-file_index l = AllByRecursion (PlacesHold l.scope.named.now) (take l.file_index l.scope.named.now)
