-- What each refusal of the types of files says (docs/language.md, "Checking types").
use Rattle.std.specs.Prelude.{ℕ, ◌⊎◌, List, map}
use Rattle.fidl_tree.specs.Views.{file_view}
use Rattle.fidl_tree.specs.declared.file.File.{File}
use Rattle.fidl_named.specs.declared.place.Place.{Place}
use Rattle.fidl_member_rules.specs.declared.fault.RuleFault.TheVariants as rule
use Rattle.fidl_member_rules.specs.Rules.{IsTrueOfRules}
use Rattle.fidl_member_rules.specs.declared.value_fault.ValuesFault.TheVariants as value
use Rattle.fidl_member_rules.specs.ValueRules.{IsTrueOfValues}
use Rattle.fidl_resource_rules.specs.declared.fault.ResourceFault.TheVariants as resource
use Rattle.fidl_resource_rules.specs.Resources.{IsTrueOfResources}
use Rattle.fidl_type_rules.specs.declared.fault.UseFault.TheVariants as used
use Rattle.fidl_type_rules.specs.Uses.{IsTrueOfUses}
use Rattle.fidl_wire.specs.Term.{Term}
use Rattle.fidl_lower_types.specs.Numbers.{all_forms}
use Rattle.fidl_lower_layouts.specs.Definitions.{DefinitionsAre}
use Rattle.fidl_ir_rules.specs.declared.mark.Mark.{Mark}
use Rattle.fidl_ir_rules.specs.Resources.{is_resource, HoldsResource}
use Rattle.fidl_ir_rules.specs.Inline.{IsFirstInItself}
use Rattle.fidl_types.specs.declared.fault.TypeFault.{TypeFault}
use Rattle.fidl_types.specs.declared.fault.TypeFault.TheVariants.{NotResource, InlineCycle}
use Rattle.fidl_types.specs.declared.fault.TypeFault.TheVariants.{BadOrdinal, DuplicateOrdinal}
use Rattle.fidl_types.specs.declared.fault.TypeFault.TheVariants.{DuplicateValue, NotPowerOfTwo}
use Rattle.fidl_types.specs.declared.fault.TypeFault.TheVariants.{EmptyStrict, OptionalMember}
use Rattle.fidl_types.specs.declared.fault.TypeFault.TheVariants.{BadConstraint, BadBox}
use Rattle.fidl_types.specs.declared.fault.TypeFault.TheVariants.{OutOfProfile, Memory}
use Rattle.fidl_types.specs.Marks.{marks_of}
use Rattle.fidl_types.specs.Places.{IsPlaceOf}

-- some member of the definition of this number holds a resource, though it isn't marked
abbrev pub SomeHolds : (marks : List Mark) → (ts : List Term) → (i : ℕ) → Type 0
SomeHolds marks ts i = (m : ℕ) × HoldsResource ts marks (is_resource ts marks) i m

-- one of the definitions of files breaks a rule, and this is the place of its form
pub record FormBreaks (files : List File) (Breaks : List Term → (i : ℕ) → Type 0) (place : Place)
    : Type 0 where
  pub terms : List Term
  pub definitions : DefinitionsAre files terms
  pub number : ℕ
  pub breaks : Breaks terms number
  pub reported : IsPlaceOf (all_forms files) number place

-- a refusal is true of files; that memory ran out says nothing of them
abbrev pub IsTrueOfTypes : List File → TypeFault → Type 0
IsTrueOfTypes files (NotResource place) =
    FormBreaks files (SomeHolds (marks_of (all_forms files))) place
IsTrueOfTypes files (InlineCycle place) = FormBreaks files IsFirstInItself place
IsTrueOfTypes files (BadOrdinal place) =
    IsTrueOfRules (map file_view files) (rule.BadOrdinal place)
IsTrueOfTypes files (DuplicateOrdinal place) =
    IsTrueOfRules (map file_view files) (rule.DuplicateOrdinal place)
IsTrueOfTypes files (DuplicateValue place) = IsTrueOfValues files (value.DuplicateValue place)
IsTrueOfTypes files (NotPowerOfTwo place) = IsTrueOfValues files (value.NotPowerOfTwo place)
IsTrueOfTypes files (EmptyStrict place) =
    IsTrueOfRules (map file_view files) (rule.EmptyStrict place)
IsTrueOfTypes files (OptionalMember place) = IsTrueOfUses files (used.OptionalMember place)
IsTrueOfTypes files (BadConstraint place) =
    IsTrueOfUses files (used.BadConstraint place)
    ⊎ IsTrueOfResources files (resource.BadConstraint place)
IsTrueOfTypes files (BadBox place) = IsTrueOfUses files (used.BadBox place)
IsTrueOfTypes files (OutOfProfile place) =
    IsTrueOfRules (map file_view files) (rule.OutOfProfile place)
    ⊎ IsTrueOfUses files (used.OutOfProfile place)
IsTrueOfTypes files Memory = Unit {0}
