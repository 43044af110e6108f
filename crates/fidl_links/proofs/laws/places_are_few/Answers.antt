use Rattle.fidl_links.proofs.Places.{few_places}
use Rattle.fidl_links.proofs.laws.places_are_few.Goals as goal

pub returns : goal.returns
returns c = few_places
