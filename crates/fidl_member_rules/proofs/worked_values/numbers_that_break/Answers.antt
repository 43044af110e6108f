use Rattle.std.proofs.Common.{refl}
use Rattle.fidl_member_rules.proofs.Powers.{not_three}
use Rattle.fidl_member_rules.proofs.worked_values.numbers_that_break.Goals as goal

pub returns-clause-bits : goal.returns-clause-bits
returns-clause-bits c = (refl, λ p. not_three p.0 p.1)

pub returns-clause-power : goal.returns-clause-power
returns-clause-power c = λ h. h.1 (2, refl)
