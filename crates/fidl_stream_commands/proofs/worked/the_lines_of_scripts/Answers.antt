use Rattle.std.proofs.Common.{◌≡◌, ℕ, List, get_or, ap, refl, arith}
use Rattle.std.specs.Fmt.{digits}
use Rattle.fidl_stream_commands.proofs.worked.the_lines_of_scripts.Goals as goal

pub returns-clause-placeless : goal.returns-clause-placeless
unfolding digits
returns-clause-placeless c = refl

pub returns-clause-placed : goal.returns-clause-placed
unfolding digits
returns-clause-placed c = refl

pub returns-clause-unplaced : goal.returns-clause-unplaced
unfolding digits
returns-clause-unplaced c = λ e. let bad : 32 ≡ 10 = ap (λ (l : List ℕ). get_or l 17 0) e in absurd (omega (arith, bad))
