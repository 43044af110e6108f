use Rattle.std.proofs.Common.{refl}
use Rattle.fidl_member_rules.proofs.Powers.{not_three}
use Rattle.fidl_member_rules.proofs.worked_values.powers_of_two.Goals as goal

pub returns-clause-eight : goal.returns-clause-eight
returns-clause-eight c = (3, refl)

pub returns-clause-three : goal.returns-clause-three
returns-clause-three c = λ h. not_three h.0 h.1
