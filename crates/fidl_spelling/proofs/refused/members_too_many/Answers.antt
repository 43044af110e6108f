use Rattle.fidl_spelling.proofs.Refusing.{no_member}
use Rattle.fidl_spelling.proofs.refused.members_too_many.Goals as goal

pub returns : goal.returns
returns c = no_member
