use Rattle.std.proofs.Common.{inl, inr, refl}
use Rattle.fidl_cycles.specs.Cycles.{step}
use Rattle.fidl_protocol.proofs.worked.methods_of_protocols.Goals as goal

pub returns-clause-own : goal.returns-clause-own
returns-clause-own c = λ files m d. record { reaches = inl refl; declared = d }

pub returns-clause-composed : goal.returns-clause-composed
returns-clause-composed c = λ files p m h d. record { reaches = inr (step p m.protocol h); declared = d }

pub returns-clause-not_reached : goal.returns-clause-not_reached
returns-clause-not_reached c = λ files p m not h. not h.reaches

pub returns-clause-not_declared : goal.returns-clause-not_declared
returns-clause-not_declared c = λ files p m not h. not h.declared
