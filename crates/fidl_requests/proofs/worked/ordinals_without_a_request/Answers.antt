use Rattle.std.proofs.Common.{◌≡◌, arith, below_none, below_more, inl, inr}
use Rattle.fidl_requests.specs.Samples.{protocol_of}
use Rattle.fidl_requests.proofs.Numbered.{never_both}
use Rattle.fidl_requests.proofs.Sampled.{sound, first, third, event}
use Rattle.fidl_requests.proofs.worked.ordinals_without_a_request.Goals as goal

pub returns-clause-event : goal.returns-clause-event
returns-clause-event c = inr (event 0)

pub returns-clause-none : goal.returns-clause-none
returns-clause-none c =
    let zero_not : 1 ≡ 4 → ⊥ = λ e. absurd (omega (arith, e)) in
    let one_not : 2 ≡ 4 → ⊥ = λ e. absurd (omega (arith, e)) in
    let two_not : 3 ≡ 4 → ⊥ = λ e. absurd (omega (arith, e)) in
    inl (below_more _ 2 (below_more _ 1 (below_more _ 0 (below_none _) zero_not) one_not) two_not)

pub returns-clause-one_way : goal.returns-clause-one_way
returns-clause-one_way c = λ h. never_both (protocol_of 0) (sound 0 (omega arith)) 1 0 h (first 0)

pub returns-clause-no_event : goal.returns-clause-no_event
returns-clause-no_event c = λ h. never_both (protocol_of 0) (sound 0 (omega arith)) 3 2 (inr h) (third 0)
