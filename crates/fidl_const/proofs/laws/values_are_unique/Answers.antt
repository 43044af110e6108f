-- Values are unique.
use Rattle.fidl_consts.proofs.OneValue.{one_value, one_offered}
use Rattle.fidl_const.proofs.laws.values_are_unique.Goals as goal

pub returns-clause-expressions : goal.returns-clause-expressions
returns-clause-expressions c = one_value

pub returns-clause-meanings : goal.returns-clause-meanings
returns-clause-meanings c = one_offered
