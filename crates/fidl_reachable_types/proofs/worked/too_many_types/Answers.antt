use Rattle.std.proofs.Common.{arith}
use Rattle.fidl_reachable_types.proofs.Members.{at_most}
use Rattle.fidl_reachable_types.proofs.Small.{both, both_reached, complete}
use Rattle.fidl_reachable_types.proofs.worked.too_many_types.Goals as goal

pub returns-clause-past : goal.returns-clause-past
returns-clause-past c = record { types = both; distinct = both_reached.distinct; sound = both_reached.sound; many = omega arith }

pub returns-clause-within : goal.returns-clause-within
returns-clause-within c = λ h.
    let fewer = at_most h.types both h.distinct (λ t k. complete t (h.sound t k)) in
    let many = h.many in
    omega (arith, fewer, many)
