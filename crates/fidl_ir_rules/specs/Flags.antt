-- Flags of definitions, as the code holds them.
use Rattle.std.specs.Prelude.{ℕ, ◌≡◌, Bool, true, false, List, Some, get_or, slice_get}
use Rattle.std.specs.List.{AllByRecursion}
use Rattle.fidl_wire.specs.Term.{Term}
use Rattle.fidl_ir_rules.specs.declared.mark.Mark.{Mark}
use Rattle.fidl_ir_rules.specs.declared.fault.DefinitionFault.{DefinitionFault}
use Rattle.fidl_ir_rules.specs.declared.fault.DefinitionFault.TheVariants.{NotResource}
use Rattle.fidl_ir_rules.specs.declared.fault.DefinitionFault.TheVariants.{InlineCycle, Memory}
use Rattle.fidl_ir_rules.specs.Resources.{bears, HoldsResource}

-- the flag of a definition
abbrev pub is_flagged : List Bool → ℕ → Bool
is_flagged flags i = get_or flags i false

-- the type of this number holds one of these
pub record BearsAt (is_one : ℕ → Bool) (types : List Term) (m : ℕ) : Type 0 where
  pub member : Term
  pub among : slice_get types m ≡ Some member
  pub resource : bears is_one member ≡ true

-- none of the types does
abbrev pub NoneBears : (is_one : ℕ → Bool) → List Term → Type 0
NoneBears is_one types = AllByRecursion (λ t. bears is_one t ≡ false) types

-- a refusal of a member, by these resources
abbrev pub IsWrongMember : (terms : List Term) → List Mark → (is_one : ℕ → Bool) → DefinitionFault
    → Type 0
IsWrongMember terms marks is_one (NotResource i m) = HoldsResource terms marks is_one i m
IsWrongMember terms marks is_one (InlineCycle i) = ⊥
IsWrongMember terms marks is_one Memory = ⊥
