use Rattle.std.proofs.Common.{◌≡◌, ◌∙◌, ◌∷◌, [], sym, ap}
use Rattle.fidl_payloads.specs.Members.{part_types}
use Rattle.fidl_payloads.proofs.worked.types_that_are_payloads.Goals as goal

pub returns-clause-both : goal.returns-clause-both
returns-clause-both c = λ m a b e r is error. ap (λ o. a ∷ part_types o) is

pub returns-clause-other : goal.returns-clause-other
returns-clause-other c = λ m b r is none.
    let same : b ∷ [] ≡ [] = sym (ap part_types is) ∙ none in
    absurd (cc)
