use Rattle.std.proofs.Common.{rules, refl}
use Rattle.fidl_member_rules.proofs.Powers.{not_three}
use Rattle.fidl_member_rules.proofs.worked_values.numbers_that_hold.Goals as goal

pub returns-clause-bits : goal.returns-clause-bits
returns-clause-bits c = record { differ = search rules; powers = λ _. ((2, refl), ((0, refl), tt)) }

pub returns-clause-no_power : goal.returns-clause-no_power
returns-clause-no_power c = λ h. let p = (h.powers refl).1.0 in not_three p.0 p.1
