-- What each refusal of laying out says (docs/language.md, "Laying out").
use Rattle.std.specs.Prelude.{ℕ, ◌≡◌, ◌⊎◌, List}
use Rattle.fidl_limits.specs.declared.limits.TheConstants.{MAX_ENTRIES}
use Rattle.fidl_tree.specs.Syntax.{TypeUse}
use Rattle.fidl_tree.specs.declared.file.File.{File}
use Rattle.fidl_named.specs.declared.place.Place.{Place}
use Rattle.fidl_consts.specs.Refusals.{type_span}
use Rattle.fidl_wire.specs.Term.{Term}
use Rattle.fidl_wire.specs.Figure.{Declarations, IsLaidOut}
use Rattle.fidl_lower_types.specs.Terms.{TermIs}
use Rattle.fidl_lower_types.specs.Numbers.{all_forms}
use Rattle.fidl_lower_layouts.specs.Definitions.{DefinitionsAre}
use Rattle.fidl_type_shape.specs.declared.fault.Excess.{Excess}
use Rattle.fidl_type_shape.specs.declared.fault.Excess.TheVariants.{Nest, Size}
use Rattle.fidl_type_shape.specs.Faults.{IsTooNested, IsTooLarge, HasTooManyMembers, HoldsExcess}
use Rattle.fidl_reachable_types.specs.Faults.{AreTooMany}
use Rattle.fidl_types.specs.Faults.{FormBreaks}
use Rattle.fidl_types.specs.Places.{IsPlaceOf}
use Rattle.fidl_layout.specs.declared.fault.LayoutFault.{LayoutFault}
use Rattle.fidl_layout.specs.declared.fault.LayoutFault.TheVariants.{TooNested, TooLarge}
use Rattle.fidl_layout.specs.declared.fault.LayoutFault.TheVariants.{TooManyTypes, TooManyMembers}
use Rattle.fidl_layout.specs.declared.fault.LayoutFault.TheVariants.{Memory}
use Rattle.fidl_layout.specs.Roots.{AreRoots, RootAt}
use Rattle.fidl_layout.specs.Written.{HasTooManyValues}
use Rattle.fidl_layout.specs.Uses.{IsWritten}

-- bits or an enum with too many members stand at a place
pub record ValuesAreTooMany (files : List File) (place : Place) : Type 0 where
  pub number : ℕ
  pub many : HasTooManyValues (all_forms files) number
  pub reported : IsPlaceOf (all_forms files) number place

-- a written type stands at a place, and what stands in it is past a limit, by figures of all
-- definitions
pub record UseExceeds (files : List File) (excess : Excess) (place : Place) : Type 0 where
  pub declarations : Declarations
  pub definitions : DefinitionsAre files declarations.terms
  pub laid_out : IsLaidOut declarations
  pub written : TypeUse
  pub is : IsWritten files place.file written
  pub reported : place.span ≡ type_span written
  pub term : Term
  pub term_is : TermIs files place.file written term
  pub exceeds : HoldsExcess declarations.figures term excess

-- the declared types of files reach too many types; the place is that of one of them
pub record TypesAreTooMany (files : List File) (place : Place) : Type 0 where
  pub terms : List Term
  pub definitions : DefinitionsAre files terms
  pub roots : List ℕ
  pub are : AreRoots files roots
  pub many : AreTooMany terms roots MAX_ENTRIES
  pub number : ℕ
  pub root : RootAt files number
  pub reported : IsPlaceOf (all_forms files) number place

-- a refusal is true of files; that memory ran out says nothing of them
abbrev pub IsTrueOfLayout : List File → LayoutFault → Type 0
IsTrueOfLayout files (TooNested place) =
    FormBreaks files IsTooNested place ⊎ UseExceeds files Nest place
IsTrueOfLayout files (TooLarge place) =
    FormBreaks files IsTooLarge place ⊎ UseExceeds files Size place
IsTrueOfLayout files (TooManyTypes place) = TypesAreTooMany files place
IsTrueOfLayout files (TooManyMembers place) =
    FormBreaks files HasTooManyMembers place ⊎ ValuesAreTooMany files place
IsTrueOfLayout files Memory = Unit {0}
