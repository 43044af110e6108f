use Rattle.fidl_spelling.proofs.Refusing.{no_bool}
use Rattle.fidl_spelling.proofs.refused.bools_in_capitals.Goals as goal

pub returns : goal.returns
returns c = no_bool
