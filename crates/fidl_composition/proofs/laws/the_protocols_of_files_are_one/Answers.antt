use Rattle.fidl_composition.proofs.Order.{one_protocols}
use Rattle.fidl_composition.proofs.laws.the_protocols_of_files_are_one.Goals as goal

pub returns : goal.returns
returns c = one_protocols
