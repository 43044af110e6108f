use Rattle.std.proofs.Common.{[], ◌∷◌, sym, subst}
use Rattle.fidl_named.specs.MemberNumbers.{AreNumbersOf, Match}
use Rattle.fidl_named.proofs.worked.numbers_of_files.Goals as goal

pub returns-clause-seen : goal.returns-clause-seen
returns-clause-seen c = λ f d n is h. subst (λ ds. Match (AreNumbersOf f) ds (n ∷ [])) (sym is) (h, tt)

pub returns-clause-first : goal.returns-clause-first
returns-clause-first c = λ f d e m n is h. (subst (λ ds. Match (AreNumbersOf f) ds (m ∷ n ∷ [])) is h).0

pub returns-clause-other : goal.returns-clause-other
returns-clause-other c = λ f d is h. subst (λ ds. Match (AreNumbersOf f) ds []) is h
