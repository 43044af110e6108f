use Rattle.fidl_constraints.proofs.OneGathered.{one_gathered}
use Rattle.fidl_constraints.proofs.laws.what_constraints_give_is_one.Goals as goal

pub returns : goal.returns
returns c = one_gathered
