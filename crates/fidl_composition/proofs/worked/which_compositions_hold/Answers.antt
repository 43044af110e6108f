use Rattle.fidl_tree.specs.Syntax.{closed_protocol, ajar_protocol}
use Rattle.fidl_cycles.specs.Cycles.{step}
use Rattle.fidl_composition.proofs.Facts.{none_composes, none_leads}
use Rattle.fidl_composition.proofs.worked.which_compositions_hold.Goals as goal

pub returns-clause-none : goal.returns-clause-none
returns-clause-none c = record { openness = λ p q one other h. absurd (none_composes p q h); no_cycle = λ p. none_leads p p }

pub returns-clause-too_open : goal.returns-clause-too_open
returns-clause-too_open c = λ files p q h one other holds. holds.openness p q closed_protocol ajar_protocol h one other

pub returns-clause-itself : goal.returns-clause-itself
returns-clause-itself c = λ files p h holds. holds.no_cycle p (step p p h)
