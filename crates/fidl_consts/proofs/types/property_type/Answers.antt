use Rattle.std.proofs.Common.{sym}
use Rattle.std.proofs.lemmas.Result.{IfOk-weaker}
use Rattle.fidl_consts.specs.Types.{PropertyIs}
use Rattle.fidl_consts.proofs.types.property_type.Goals as goal

pub returns-in-Some : goal.returns-in-Some
returns-in-Some c = PropertyIs.written c.in-Some.field-0.now (sym c.in-Some.ensures)

pub returns-in-None : goal.returns-in-None
returns-in-None c = IfOk-weaker c.written_type.result _ _ (λ found h. PropertyIs.other found (sym c.in-None.ensures) h) c.written_type.ensures
