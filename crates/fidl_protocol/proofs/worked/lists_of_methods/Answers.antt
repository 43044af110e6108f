use Rattle.std.proofs.Common.{ℕ, [], ◌∷◌, ◌<◌, arith}
use Rattle.fidl_composition.proofs.Lists.{nothing_there, here, there, no_pairs, first_before}
use Rattle.fidl_protocol.specs.declared.method.Method.{Method}
use Rattle.fidl_protocol.proofs.Ordering.{IsBelow}
use Rattle.fidl_protocol.proofs.worked.lists_of_methods.Goals as goal

pub returns-clause-none : goal.returns-clause-none
returns-clause-none c = λ files p none. record {
  sound = λ m h. absurd (nothing_there m h);
  complete = λ m h. absurd (none m h);
  rise = no_pairs IsBelow;
}

pub returns-clause-left_out : goal.returns-clause-left_out
returns-clause-left_out c = λ files p m h all. nothing_there m (all.complete m h)

pub returns-clause-another : goal.returns-clause-another
returns-clause-another c = λ files p m not all. not (all.sound m (here m []))

pub returns-clause-twice : goal.returns-clause-twice
returns-clause-twice c = λ files p m all. let lt = first_before IsBelow m (m ∷ []) all.rise m (here m []) in omega (arith, lt)

pub returns-clause-falling : goal.returns-clause-falling
returns-clause-falling c = λ files p one other less all. let lt = first_before IsBelow one (other ∷ []) all.rise other (here other []) in omega (arith, lt, less)
