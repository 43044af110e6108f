use Rattle.fidl_tree.specs.declared.type_constructor.LayoutBody.TheFolds.{fold-roll-LayoutBody, fold-roll-StructLayout}
use Rattle.fidl_tree.proofs.worked.members_in_order.Goals as goal

pub returns-clause-seen : goal.returns-clause-seen
returns-clause-seen c one other members h = rw (fold-roll-LayoutBody, fold-roll-StructLayout, h)

pub returns-clause-other : goal.returns-clause-other
returns-clause-other c one other members h e = let seen = returns-clause-seen c one other members h in cc
