use Rattle.fidl_resource_rules.proofs.Excluded.{refused_not}
use Rattle.fidl_resource_rules.proofs.laws.refused_resources_break_a_rule.Goals as goal

pub returns : goal.returns
returns c = refused_not
