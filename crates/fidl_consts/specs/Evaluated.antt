-- When files evaluate (docs/language.md, "Evaluating"): `Evaluates`, which the contract of
-- `fidl_const::evaluate` cites.
use Rattle.std.specs.Prelude.{List}
use Rattle.std.specs.List.{AllByRecursion}
use Rattle.fidl_tree.specs.declared.file.File.{File}
use Rattle.fidl_tree.specs.declared.declaration.ConstDeclaration.{ConstDeclaration}
use Rattle.fidl_named.specs.declared.place.DeclarationId.{DeclarationId}
use Rattle.fidl_named.specs.declared.meaning.Meaning.{Meaning}
use Rattle.fidl_named.specs.declared.meaning.Meaning.TheVariants as meaning
use Rattle.fidl_cycles.specs.Cycles.{Leads}
use Rattle.fidl_consts.specs.declared.const_type.ConstType.{ConstType}
use Rattle.fidl_consts.specs.PlainValues.{PlainValue, text_length}
use Rattle.fidl_consts.specs.Types.{IsConstAt, IsStringType}
use Rattle.fidl_consts.specs.Values.{Offers}
use Rattle.fidl_consts.specs.Dependencies.{DependsOn}
use Rattle.fidl_consts.specs.Strings.{TextFits}
use Rattle.fidl_consts.specs.Places.{PlacesHold}

-- a constant has a value at its type, and a string is no longer than its bounds
pub record ConstantHolds (files : List File) (p : DeclarationId) (f : File) (c : ConstDeclaration)
    : Type
    0 where
  pub own : ConstType
  pub known : PlainValue
  pub offers : Offers files (meaning.Declared p) own known
  pub text : IsStringType files f c.constructor
      → TextFits files p.file f c.constructor (text_length known)

-- each constant of the files does
abbrev pub ConstantsHold : List File → Type 0
ConstantsHold files = (p : DeclarationId) (f : File) (c : ConstDeclaration) → IsConstAt files p f c
    → ConstantHolds files p f c

-- files evaluate: each constant and each place has its value, and no declaration or member depends
-- on itself
pub record Evaluates (files : List File) : Type 0 where
  pub no_cycle : (m : Meaning) → Leads (DependsOn files) m m → ⊥
  pub constants : ConstantsHold files
  pub places : AllByRecursion (PlacesHold files) files
