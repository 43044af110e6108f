use Rattle.std.proofs.Common.{refl}
use Rattle.fidl_spelling.proofs.WordLaws.{words_same}
use Rattle.fidl_spelling.proofs.laws.words_are_unique.Goals as goal

pub returns : goal.returns
returns c text ws vs h k = words_same text text ws vs refl h k
