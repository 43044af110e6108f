use Rattle.fidl_spelling.proofs.Refusing.{no_more}
use Rattle.fidl_spelling.proofs.refused.words_too_many.Goals as goal

pub returns : goal.returns
returns c = no_more
