use Rattle.fidl_composition.proofs.Facts.{none_numbered, edge_lacks, edge_more, number_itself, number_past}
use Rattle.fidl_composition.proofs.worked.protocols_by_their_numbers.Goals as goal

pub returns-clause-none : goal.returns-clause-none
returns-clause-none c = none_numbered

pub returns-clause-lacks : goal.returns-clause-lacks
returns-clause-lacks c = edge_lacks

pub returns-clause-too_many : goal.returns-clause-too_many
returns-clause-too_many c = edge_more

pub returns-clause-itself : goal.returns-clause-itself
returns-clause-itself c = number_itself

pub returns-clause-past : goal.returns-clause-past
returns-clause-past c = number_past
