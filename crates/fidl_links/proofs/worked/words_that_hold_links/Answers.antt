use Rattle.std.proofs.Common.{◌≡◌, ℕ, ◌<◌, ◌∷◌, refl, subst, arith}
use Rattle.fidl_wire.specs.Encoding.{zeros}
use Rattle.fidl_links.specs.Coding.{place_of, IsSound}
use Rattle.fidl_links.specs.Links.{IsSoundAt}
use Rattle.fidl_links.specs.Samples.{marks}
use Rattle.fidl_links.specs.Words.{word}
use Rattle.fidl_links.proofs.worked.words_that_hold_links.Goals as goal

sixteen : word (16 ∷ zeros 7) 0 ≡ 16
unfolding word
sixteen = refl

nothing : word (zeros 8) 0 ≡ 0
unfolding word
nothing = refl

first : (i : ℕ) → i < 1 → 0 ≡ i
first i lt = omega (arith, lt)

pub returns-clause-marker : goal.returns-clause-marker
returns-clause-marker c = λ i lt. subst (λ i. IsSoundAt (16 ∷ zeros 7) (marks 1 0 0) i) (first i lt) (omega (arith, sixteen), (omega (arith, sixteen), omega (arith, sixteen)))

pub returns-clause-no_object : goal.returns-clause-no_object
returns-clause-no_object c = λ h. omega (arith, (h 0 (omega arith)).1, nothing)

pub returns-clause-no_member : goal.returns-clause-no_member
returns-clause-no_member c = λ h. let some : 0 < place_of 0 = subst (λ w. IsSound 0 1 0 0 w) nothing (h 0 (omega arith)).1 in omega (arith, some)

pub returns-clause-no_record : goal.returns-clause-no_record
returns-clause-no_record c = λ h. omega (arith, (h 0 (omega arith)).1, nothing)

pub returns-clause-none : goal.returns-clause-none
returns-clause-none c = λ i lt. subst (λ i. IsSoundAt (zeros 8) (marks 0 0 0) i) (first i lt) (omega (arith, nothing), (tt, tt))
