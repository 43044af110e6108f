use Rattle.std.proofs.Common.{◌≡◌, List, [], ◌∷◌}
use Rattle.fidl_wire.specs.Term.{Term}
use Rattle.fidl_wire.specs.Term as ty
use Rattle.fidl_reachable_types.specs.Reached.{with_known, with_new}
use Rattle.fidl_reachable_types.proofs.Members.{here, there}
use Rattle.fidl_reachable_types.proofs.Growth.{joined_known}
use Rattle.fidl_reachable_types.proofs.OneList.{one_joined}
use Rattle.fidl_reachable_types.proofs.Small.{both, both_joined, apart, alone}
use Rattle.fidl_reachable_types.proofs.worked.what_is_joined.Goals as goal

pub returns-clause-in_order : goal.returns-clause-in_order
returns-clause-in_order c = both_joined

pub returns-clause-once : goal.returns-clause-once
returns-clause-once c =
    let after : List Term = ty.bool ∷ ty.named 0 ∷ [] in
    with_new (ty.bool ∷ []) (ty.bool ∷ ty.named 0 ∷ []) after (ty.named 0) apart
    (with_known after (ty.named 0 ∷ []) after ty.bool (here ty.bool (ty.named 0 ∷ [])) (joined_known after (ty.named 0) (there ty.bool (ty.named 0 ∷ []) (ty.named 0) (here (ty.named 0) []))))

pub returns-clause-other_order : goal.returns-clause-other_order
returns-clause-other_order c = λ j. let same : ty.bool ∷ ty.named 0 ∷ [] ≡ both = one_joined [] both (ty.bool ∷ ty.named 0 ∷ []) both j both_joined in absurd (cc)

pub returns-clause-twice : goal.returns-clause-twice
returns-clause-twice c = λ j. let same : ty.bool ∷ ty.bool ∷ [] ≡ ty.bool ∷ [] = one_joined (ty.bool ∷ []) (ty.bool ∷ []) (ty.bool ∷ ty.bool ∷ []) (ty.bool ∷ []) j (joined_known (ty.bool ∷ []) ty.bool (here ty.bool [])) in absurd (cc)

pub returns-clause-none_left_out : goal.returns-clause-none_left_out
returns-clause-none_left_out c = λ j. let same : [] ≡ ty.bool ∷ [] = one_joined [] (ty.bool ∷ []) [] (ty.bool ∷ []) j alone in absurd (cc)
