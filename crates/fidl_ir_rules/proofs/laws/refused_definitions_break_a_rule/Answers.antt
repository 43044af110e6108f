use Rattle.fidl_ir_rules.proofs.Excluded.{refused_not}
use Rattle.fidl_ir_rules.proofs.laws.refused_definitions_break_a_rule.Goals as goal

pub returns : goal.returns
returns c = refused_not
