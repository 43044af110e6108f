use Rattle.fidl_composition.proofs.Order.{before_itself}
use Rattle.fidl_composition.proofs.worked.the_order_of_declarations.Goals as goal

pub returns-clause-itself : goal.returns-clause-itself
returns-clause-itself c = before_itself
