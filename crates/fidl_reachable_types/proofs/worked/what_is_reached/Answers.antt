use Rattle.std.proofs.Common.{[], refl, arith}
use Rattle.fidl_wire.specs.Term as ty
use Rattle.fidl_reachable_types.specs.Reached.{root, part}
use Rattle.fidl_reachable_types.proofs.Members.{here}
use Rattle.fidl_reachable_types.proofs.Small.{both_reached, member_first, itself_reached, none_reached, other}
use Rattle.fidl_reachable_types.proofs.worked.what_is_reached.Goals as goal

pub returns-clause-both : goal.returns-clause-both
returns-clause-both c = both_reached

pub returns-clause-itself : goal.returns-clause-itself
returns-clause-itself c = itself_reached

pub returns-clause-one_alone : goal.returns-clause-one_alone
returns-clause-one_alone c = λ r. other (r.complete ty.bool (part (ty.named 0) ty.bool (root 0 (here 0 [])) (here ty.bool [])))

pub returns-clause-twice : goal.returns-clause-twice
returns-clause-twice c = λ r. r.distinct 1 2 ty.bool (omega arith) (omega arith) refl

pub returns-clause-without_roots : goal.returns-clause-without_roots
returns-clause-without_roots c = none_reached

pub returns-clause-member_first : goal.returns-clause-member_first
returns-clause-member_first c = member_first
