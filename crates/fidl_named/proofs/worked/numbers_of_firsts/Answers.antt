use Rattle.std.proofs.Common.{◌≡◌, [], ◌∷◌, inl, refl, sym, ◌∙◌, arith}
use Rattle.std.proofs.lemmas.Option.{same_Some}
use Rattle.fidl_named.specs.MemberNumbers.{AreNumbers}
use Rattle.fidl_named.proofs.NumbersOfNames.{numbers_there, numbers_more}
use Rattle.fidl_named.proofs.Numbered.{number_found}
use Rattle.fidl_named.proofs.worked.numbers_of_firsts.Goals as goal

no_names : AreNumbers [] []
no_names = λ n i. ((λ e. absurd e), (λ e. absurd (cc)))

pub returns-clause-seen : goal.returns-clause-seen
returns-clause-seen c = λ x. numbers_there (x ∷ []) ((x, 0) ∷ []) x (inl refl) (numbers_more [] [] x (λ h. h) no_names)

pub returns-clause-other : goal.returns-clause-other
returns-clause-other c = λ x h.
    let first = number_found x (x ∷ x ∷ []) 0 refl (λ k lt is. absurd (omega (arith, lt))) in
    let both : 0 ≡ 1 = same_Some 0 1 (sym first ∙ (h x 1).0 (inl (refl, refl))) in
    absurd (omega (arith, both))
