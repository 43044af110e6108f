use Rattle.fidl_spelling.proofs.Refusing.{no_braces}
use Rattle.fidl_spelling.proofs.refused.vectors_in_braces.Goals as goal

pub returns : goal.returns
returns c = no_braces
