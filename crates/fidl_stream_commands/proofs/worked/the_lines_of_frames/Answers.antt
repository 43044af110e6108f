use Rattle.std.proofs.Common.{◌≡◌, ℕ, List, get_or, ap, refl, arith}
use Rattle.std.specs.Fmt.{digits}
use Rattle.fidl_stream_commands.proofs.worked.the_lines_of_frames.Goals as goal

pub returns-clause-cut : goal.returns-clause-cut
unfolding digits
returns-clause-cut c = refl

pub returns-clause-bare : goal.returns-clause-bare
unfolding digits
returns-clause-bare c = refl

pub returns-clause-header : goal.returns-clause-header
unfolding digits
returns-clause-header c = refl

pub returns-clause-body : goal.returns-clause-body
unfolding digits
returns-clause-body c = refl

pub returns-clause-placed : goal.returns-clause-placed
unfolding digits
returns-clause-placed c = λ e. let bad : 32 ≡ 10 = ap (λ (l : List ℕ). get_or l 25 0) e in absurd (omega (arith, bad))
