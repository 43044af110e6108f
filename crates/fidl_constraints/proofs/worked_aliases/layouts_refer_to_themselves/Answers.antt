use Rattle.fidl_constraints.specs.Behind.{RefersTo}
use Rattle.fidl_constraints.proofs.worked_aliases.layouts_refer_to_themselves.Goals as goal

pub returns-clause-itself : goal.returns-clause-itself
returns-clause-itself c = λ files n attributes l cs. RefersTo.by_layout attributes l cs
