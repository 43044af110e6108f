-- What a refusal says of a whole, from what it says of a part.
use Rattle.std.proofs.Common.{inl, inr}
use Rattle.fidl_consts.specs.declared.fault.ConstFault.{ConstFault}
use Rattle.fidl_consts.specs.Tables.{IsMemoryOr}

module _ (P Q : ConstFault → Type 0) (wider : (fault : ConstFault) → P fault → Q fault) where
  pub reports_more : (fault : ConstFault) → IsMemoryOr P fault → IsMemoryOr Q fault
  reports_more fault (inl e) = inl e
  reports_more fault (inr h) = inr (wider fault h)
