use Rattle.std.proofs.Common.{refl}
use Rattle.fidl_named.proofs.worked.lists_that_match.Goals as goal

pub returns-clause-seen : goal.returns-clause-seen
returns-clause-seen c = λ x y. (refl, (refl, tt))

pub returns-clause-other : goal.returns-clause-other
returns-clause-other c = λ x y h. h.1
