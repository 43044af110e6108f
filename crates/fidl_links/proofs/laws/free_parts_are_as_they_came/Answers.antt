use Rattle.fidl_links.proofs.Free.{agreed_part}
use Rattle.fidl_links.proofs.laws.free_parts_are_as_they_came.Goals as goal

pub returns : goal.returns
returns c = λ m raw same agree from to room free. agreed_part m raw same agree from to room free
