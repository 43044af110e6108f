use Rattle.std.proofs.Common.{◌≡◌, ℕ, List, get_or, ap, refl, arith}
use Rattle.std.specs.Fmt.{digits}
use Rattle.fidl_stream_commands.proofs.worked.the_lines_of_services.Goals as goal

pub returns-clause-strict : goal.returns-clause-strict
unfolding digits
returns-clause-strict c = refl

pub returns-clause-write : goal.returns-clause-write
unfolding digits
returns-clause-write c = refl

pub returns-clause-read : goal.returns-clause-read
unfolding digits
returns-clause-read c = λ e. let bad : 49 ≡ 50 = ap (λ (l : List ℕ). get_or l 6 0) e in absurd (omega (arith, bad))
