use Rattle.std.proofs.Common.{arith}
use Rattle.fidl_script.proofs.worked.bodies_behind_headers.Goals as goal

pub returns-clause-longest : goal.returns-clause-longest
returns-clause-longest c = λ body e. omega (arith, e)

pub returns-clause-longer : goal.returns-clause-longer
returns-clause-longer c = λ body e h. omega (arith, e, h)
