-- The number of a member, by its value.
use Rattle.std.proofs.Common.{◌≡◌, ℕ, ℤ, List, Option, Some, None, subst, inl, inr}
use Rattle.std.specs.Prelude.{slice_get, IfSome}
use Rattle.fidl_tree.specs.Syntax.{ValueMember}
use Rattle.fidl_tree.specs.declared.file.File.{File}
use Rattle.fidl_named.specs.Scopes.{OfFile}
use Rattle.fidl_consts.specs.declared.const_type.NumberKind.{NumberKind}
use Rattle.fidl_consts.specs.declared.const_type.ConstType.TheVariants as const
use Rattle.fidl_consts.specs.declared.const_value.ConstValue.{ConstValue}
use Rattle.fidl_consts.specs.declared.fault.ConstFault.{ConstFault}
use Rattle.fidl_consts.specs.declared.fault.ConstFault.TheVariants.{Memory}
use Rattle.fidl_consts.specs.PlainValues.{PlainValue, seen, a_number}
use Rattle.fidl_consts.specs.Values.{ValueIs}
use Rattle.fidl_consts.specs.Refusals.{ValueFails}
use Rattle.fidl_consts.specs.Tables.{IsMemoryOr}
use Rattle.fidl_consts.proofs.OneValue.{one_value}
use Rattle.fidl_consts.proofs.NoValue.{no_value}
use Rattle.fidl_member_rules.specs.Numbers.{HasNumber}

module _ (files : List File) (number : ℕ) (f : File) (at : slice_get files number ≡ Some f) (kind : NumberKind) (m : ValueMember) where
  module _ (v : ConstValue) (is : OfFile files number (λ f. ValueIs files f (const.Number kind) m.value (seen v))) where
    has_number : (z : ℤ) → seen v ≡ a_number z → HasNumber files f kind m z
    has_number z e = subst (λ (k : PlainValue). ValueIs files f (const.Number kind) m.value k) e (is f at)

    pub found_number : (found : Option ℤ) → IfSome found (λ z. seen v ≡ a_number z) → IfSome found (HasNumber files f kind m)
    found_number (Some z) e = has_number z e
    found_number None e = tt

    pub no_number : ((z : ℤ) → seen v ≡ a_number z → ⊥) → (z : ℤ) → HasNumber files f kind m z → ⊥
    no_number none z h = none z (one_value files f (const.Number kind) m.value (seen v) (a_number z) (is f at) h)

  pub no_value_of : (fault : ConstFault) → IsMemoryOr (λ fault. OfFile files number (λ f. ValueFails files f number (const.Number kind) fault m.value)) fault → (fault ≡ Memory → ⊥)
      → (z : ℤ) → HasNumber files f kind m z → ⊥
  no_value_of fault (inl memory) other z h = absurd (other memory)
  no_value_of fault (inr fails) other z h = no_value files f number (const.Number kind) fault m.value (a_number z) (fails f at) h
