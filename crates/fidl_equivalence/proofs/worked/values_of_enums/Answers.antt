use Rattle.std.proofs.Common.{pos, refl, arith}
use Rattle.fidl_equivalence.specs.Alike.{strict}
use Rattle.fidl_equivalence.proofs.Small.{listed, turned, no_other}
use Rattle.fidl_equivalence.proofs.worked.values_of_enums.Goals as goal

pub returns-clause-turned : goal.returns-clause-turned
returns-clause-turned c = strict (λ z. (turned (pos 1) (pos 2) z, turned (pos 2) (pos 1) z))

pub returns-clause-fewer : goal.returns-clause-fewer
returns-clause-fewer c = λ h. no_other ((listed h (pos 1)).0 (0, omega arith, refl))
