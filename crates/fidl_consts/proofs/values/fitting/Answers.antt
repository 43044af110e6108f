use Rattle.std.proofs.Common.{◌≡◌, true, false}
use Rattle.fidl_consts.specs.Refusals.{LiteralFails}
use Rattle.fidl_consts.proofs.values.fitting.Goals as goal

pub returns-then-not-is_literal_of-clause-fault_is_true : goal.returns-then-not-is_literal_of-clause-fault_is_true
returns-then-not-is_literal_of-clause-fault_is_true c = LiteralFails.kind (λ h. cc)

pub returns-then-not-fits-clause-fault_is_true : goal.returns-then-not-fits-clause-fault_is_true
returns-then-not-fits-clause-fault_is_true c = LiteralFails.range (cc) (λ h. let bad : false ≡ true = c.if-not-fits.ensures.1 h in cc)
