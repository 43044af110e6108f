use Rattle.std.proofs.Common.{◌≡◌, ℕ, List, get_or, ap, refl, arith}
use Rattle.std.specs.Fmt.{digits}
use Rattle.fidl_commands.proofs.worked.the_line_of_a_short_table.Goals as goal

pub returns-clause-is : goal.returns-clause-is
unfolding digits
returns-clause-is c = refl

pub returns-clause-other : goal.returns-clause-other
unfolding digits
returns-clause-other c = λ e. let bad : 52 ≡ 51 = ap (λ (l : List ℕ). get_or l 6 0) e in absurd (omega (arith, bad))
