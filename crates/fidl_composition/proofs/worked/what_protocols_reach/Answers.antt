use Rattle.std.proofs.Common.{inl, inr, refl}
use Rattle.fidl_cycles.specs.Cycles.{step}
use Rattle.fidl_composition.proofs.Facts.{reaches_through, reaches_none}
use Rattle.fidl_composition.proofs.worked.what_protocols_reach.Goals as goal

pub returns-clause-itself : goal.returns-clause-itself
returns-clause-itself c = λ files p. inl refl

pub returns-clause-composed : goal.returns-clause-composed
returns-clause-composed c = λ files p q h. inr (step p q h)

pub returns-clause-through : goal.returns-clause-through
returns-clause-through c = reaches_through

pub returns-clause-no_other : goal.returns-clause-no_other
returns-clause-no_other c = reaches_none
