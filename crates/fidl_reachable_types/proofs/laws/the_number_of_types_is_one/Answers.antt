use Rattle.std.proofs.Common.{arith}
use Rattle.fidl_reachable_types.proofs.Members.{at_most}
use Rattle.fidl_reachable_types.proofs.laws.the_number_of_types_is_one.Goals as goal

pub returns : goal.returns
returns c = λ terms roots one other r s.
    let fewer = at_most one other r.distinct (λ t h. s.complete t (r.sound t h)) in
    let more = at_most other one s.distinct (λ t h. r.complete t (s.sound t h)) in
    omega (arith, fewer, more)
