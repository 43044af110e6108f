use Rattle.fidl_consts.specs.Places.{PlaceHolds}
use Rattle.fidl_const.proofs.places.check_place.Goals as goal

pub returns-in-Name-clause-ok : goal.returns-in-Name-clause-ok
returns-in-Name-clause-ok c = rw c.in-Name.is (PlaceHolds.of_name _ _)

pub returns-in-Layout-clause-ok : goal.returns-in-Layout-clause-ok
returns-in-Layout-clause-ok c = rw c.in-Layout.is (PlaceHolds.of_layout _)
