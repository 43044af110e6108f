use Rattle.fidl_composition.proofs.Facts.{itself_back, pair_back, second_not, no_first}
use Rattle.fidl_composition.proofs.worked.where_cycles_are_reported.Goals as goal

pub returns-clause-itself : goal.returns-clause-itself
returns-clause-itself c = itself_back

pub returns-clause-first : goal.returns-clause-first
returns-clause-first c = pair_back

pub returns-clause-second : goal.returns-clause-second
returns-clause-second c = second_not

pub returns-clause-none : goal.returns-clause-none
returns-clause-none c = no_first
