use Rattle.std.proofs.Common.{◌≡◌, ap, get_or, refl, arith, true, false}
use Rattle.fidl_equivalence.specs.Alike as like
use Rattle.fidl_equivalence.proofs.Small.{rows_of, same_presence}
use Rattle.fidl_equivalence.proofs.worked.names_of_members.Goals as goal

pub returns-clause-same : goal.returns-clause-same
returns-clause-same c = like.struct (like.field refl refl like.no_fields)

pub returns-clause-of_ordinals : goal.returns-clause-of_ordinals
returns-clause-of_ordinals c = λ h. let never : 97 ≡ 98 = ap (λ l. get_or l 0 0) ((rows_of h).names 1) in absurd (omega (arith, never))

pub returns-clause-at_ordinals : goal.returns-clause-at_ordinals
returns-clause-at_ordinals c = λ h. let never : true ≡ false = same_presence ((rows_of h).members 1) in cc
