use Rattle.fidl_composition.proofs.Excluded.{refused_not}
use Rattle.fidl_composition.proofs.laws.refused_compositions_break_a_rule.Goals as goal

pub returns : goal.returns
returns c = refused_not
