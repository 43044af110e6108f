use Rattle.std.proofs.Common.{refl}
use Rattle.std.specs.Prelude.{pos}
use Rattle.fidl_member_rules.proofs.Powers.{not_three}
use Rattle.fidl_member_rules.proofs.worked_values.members_break_at_their_names.Goals as goal

pub returns-clause-name : goal.returns-clause-name
returns-clause-name c = λ m. record { rank = 0; member = m; at = refl; name_is = refl; number = pos 3; number_at = refl; breaks = (refl, λ p. not_three p.0 p.1) }
