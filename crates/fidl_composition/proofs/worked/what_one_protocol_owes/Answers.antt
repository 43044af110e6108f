use Rattle.fidl_tree.specs.Syntax.{ajar_protocol, closed_protocol}
use Rattle.fidl_composition.proofs.worked.what_one_protocol_owes.Goals as goal

pub returns-clause-none : goal.returns-clause-none
returns-clause-none c = λ files p none q one other composes _ _. absurd (none q composes)

pub returns-clause-too_open : goal.returns-clause-too_open
returns-clause-too_open c = λ files p q composes closed ajar holds. holds q closed_protocol ajar_protocol composes closed ajar
