use Rattle.fidl_consts.specs.Values.{OrOperandsAre}
use Rattle.fidl_consts.specs.PlainValues.{seen}
use Rattle.fidl_consts.proofs.OneValue.{all_of_none}
use Rattle.fidl_const.proofs.worked.values_without_or_operands.Goals as goal

pub returns-clause-seen : goal.returns-clause-seen
returns-clause-seen c = λ s t k. OrOperandsAre.none _ _ _

pub returns-clause-other : goal.returns-clause-other
returns-clause-other c = λ s t k l differ h. differ (all_of_none _ _ t (seen k) (seen l) h)
