use Rattle.fidl_member_rules.proofs.ValuesExcluded.{refused_not}
use Rattle.fidl_member_rules.proofs.value_laws.refused_values_break_a_rule.Goals as goal

pub returns : goal.returns
returns c = refused_not
