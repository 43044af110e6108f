use Rattle.fidl_span.proofs.WordLaws.{words_unique}
use Rattle.fidl_span.proofs.laws.words_are_unique.Goals as goal

pub returns : goal.returns
returns c = words_unique
