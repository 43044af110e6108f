use Rattle.fidl_equivalence.proofs.Levels.{numbered_types, numbered_figures}
use Rattle.fidl_equivalence.proofs.laws.numbered_types_are_alike.Goals as goal

pub returns-clause-alike : goal.returns-clause-alike
returns-clause-alike c = numbered_types

pub returns-clause-laid_out : goal.returns-clause-laid_out
returns-clause-laid_out c = numbered_figures
