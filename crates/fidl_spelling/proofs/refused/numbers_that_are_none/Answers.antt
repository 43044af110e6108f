use Rattle.fidl_spelling.proofs.Refusing.{no_256, no_plus}
use Rattle.fidl_spelling.proofs.refused.numbers_that_are_none.Goals as goal

pub returns-clause-too_great : goal.returns-clause-too_great
returns-clause-too_great c = no_256

pub returns-clause-plus : goal.returns-clause-plus
returns-clause-plus c = no_plus
