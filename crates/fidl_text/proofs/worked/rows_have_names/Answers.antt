use Rattle.std.proofs.Common.{◌≡◌, ℕ, List, get_or, ap, refl, arith}
use Rattle.std.specs.Fmt.{digits}
use Rattle.fidl_text.proofs.worked.rows_have_names.Goals as goal

pub returns-clause-is : goal.returns-clause-is
unfolding digits
returns-clause-is c = refl

pub returns-clause-unnamed : goal.returns-clause-unnamed
unfolding digits
returns-clause-unnamed c = λ e. let bad : 121 ≡ 45 = ap (λ (l : List ℕ). get_or l 10 0) e in absurd (omega (arith, bad))

pub returns-clause-turned : goal.returns-clause-turned
unfolding digits
returns-clause-turned c = λ e. let bad : 52 ≡ 49 = ap (λ (l : List ℕ). get_or l 6 0) e in absurd (omega (arith, bad))
