use Rattle.std.proofs.Common.{inl, inr}
use Rattle.fidl_types.proofs.worked.faults_of_two_parts.Goals as goal

pub returns-clause-neither : goal.returns-clause-neither
returns-clause-neither c = λ files place no_use no_definition h. elim h [ inl used ↦ no_use used | inr defined ↦ no_definition defined ]
