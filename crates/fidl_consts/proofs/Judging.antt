-- What a refusal says.
use Rattle.std.specs.Prelude.{Result, IfErr}
use Rattle.std.proofs.lemmas.Result.{IfErr-weaker}
use Rattle.fidl_consts.specs.declared.fault.ConstFault.{ConstFault}
use Rattle.fidl_consts.specs.Tables.{IsMemoryOr}
use Rattle.fidl_consts.proofs.Reports.{reports_more}

-- what a refusal says, of a whole that it is a part of
pub reported_more : (P Q : ConstFault → Type 0) (wider : (fault : ConstFault) → P fault → Q fault) {T : Type 0} (r : Result T ConstFault) → IfErr r (IsMemoryOr P) → IfErr r (IsMemoryOr Q)
reported_more P Q wider r h = IfErr-weaker r (IsMemoryOr P) (IsMemoryOr Q) (reports_more P Q wider) h
