use Rattle.std.proofs.Common.{arith}
use Rattle.fidl_links.proofs.worked.words_of_a_message.Goals as goal

pub returns-clause-too_wide : goal.returns-clause-too_wide
returns-clause-too_wide c = λ h. omega (arith, h 0)
