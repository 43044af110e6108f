use Rattle.fidl_equivalence.proofs.Types.{structs}
use Rattle.fidl_equivalence.proofs.Small.{itself}
use Rattle.fidl_equivalence.proofs.worked.all_levels.Goals as goal

pub returns-clause-itself : goal.returns-clause-itself
returns-clause-itself c = itself

pub returns-clause-of_a_bool : goal.returns-clause-of_a_bool
returns-clause-of_a_bool c = λ h. (structs (h 1)).0 tt
