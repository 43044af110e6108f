use Rattle.fidl_verify.proofs.Owning.{owned}
use Rattle.fidl_verify.proofs.laws.rows_are_members.Goals as goal

pub returns : goal.returns
returns c = owned
