use Rattle.std.proofs.Common.{◌<◌, arith}
use Rattle.fidl_named.proofs.Words.{no_predeclared}
use Rattle.fidl_named.proofs.meaning.find_predeclared.Goals as goal

pub returns-clause-none : goal.returns-clause-none
returns-clause-none c = λ _. no_predeclared c.args.text.now (λ k lt. let over = c.loop-name-test.false in let within : k < c.loop-name.name-index = omega arith in c.loop-name.invariant k within)
