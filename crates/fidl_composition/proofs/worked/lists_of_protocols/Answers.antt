use Rattle.std.proofs.Common.{[]}
use Rattle.fidl_composition.proofs.Lists.{here, nothing_there}
use Rattle.fidl_composition.proofs.Facts.{none_listed, not_in_order, not_twice}
use Rattle.fidl_composition.proofs.worked.lists_of_protocols.Goals as goal

pub returns-clause-none : goal.returns-clause-none
returns-clause-none c = none_listed

pub returns-clause-left_out : goal.returns-clause-left_out
returns-clause-left_out c = λ files p h all. nothing_there p (all.all p h)

pub returns-clause-no_protocol : goal.returns-clause-no_protocol
returns-clause-no_protocol c = λ files p none all. none (all.entries p (here p []))

pub returns-clause-out_of_order : goal.returns-clause-out_of_order
returns-clause-out_of_order c = not_in_order

pub returns-clause-twice : goal.returns-clause-twice
returns-clause-twice c = not_twice
