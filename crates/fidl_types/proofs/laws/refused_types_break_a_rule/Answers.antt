use Rattle.fidl_types.proofs.Excluded.{refused_not}
use Rattle.fidl_types.proofs.laws.refused_types_break_a_rule.Goals as goal

pub returns : goal.returns
returns c = λ files ts fault other h holds. refused_not files ts holds fault other h
