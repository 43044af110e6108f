use Rattle.std.proofs.Common.{refl}
use Rattle.std.specs.Fmt.{digits}
use Rattle.fidl_tool.proofs.worked.the_line_of_a_refusal.Goals as goal

pub returns-clause-plain : goal.returns-clause-plain
unfolding digits
returns-clause-plain c = λ place. refl

pub returns-clause-quoted : goal.returns-clause-quoted
unfolding digits
returns-clause-quoted c = λ place. refl
