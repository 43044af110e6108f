use Rattle.fidl_verify.proofs.Standing.{members_stand}
use Rattle.fidl_verify.proofs.laws.members_stand_apart.Goals as goal

pub returns : goal.returns
returns c = members_stand
