-- When the resource definitions of files are proper, and what each refusal says (docs/language.md,
-- "Resource definitions").
use Rattle.std.specs.Prelude.{ℕ, ◌≡◌, List, Some, codes, slice_get}
use Rattle.std.specs.List.{Contains, AllByRecursion}
use Rattle.fidl_span.specs.declared.words.Span.{Span}
use Rattle.fidl_tree.specs.Leaf.{text_at}
use Rattle.fidl_tree.specs.Views.{type_view}
use Rattle.fidl_tree.specs.declared.file.File.{File}
use Rattle.fidl_tree.specs.declared.declaration.Declaration.{Declaration}
use Rattle.fidl_tree.specs.declared.declaration.DeclarationBody.{DeclarationBody}
use Rattle.fidl_tree.specs.declared.declaration.DeclarationBody.TheVariants as body
use Rattle.fidl_tree.specs.declared.declaration.Property.{Property}
use Rattle.fidl_tree.specs.declared.declaration.ResourceDefinition.{ResourceDefinition}
use Rattle.fidl_named.specs.declared.place.Place.{Place}
use Rattle.fidl_named.specs.Constraints.{property_names}
use Rattle.fidl_consts.specs.Refusals.{type_span}
use Rattle.fidl_resource_rules.specs.declared.fault.ResourceFault.{ResourceFault}
use Rattle.fidl_resource_rules.specs.declared.fault.ResourceFault.TheVariants.{BadConstraint, Memory}
use Rattle.fidl_resource_rules.specs.Kinds.{IsUint32, TypeSuits}

-- What files owe.

-- a property in the file of this number has a type that suits its name
abbrev pub PropertyHolds : List File → (number : ℕ) → File → Property → Type 0
PropertyHolds files number f p =
    TypeSuits files number (text_at f.src.now p.name) (type_view p.constructor)

-- one of the properties is the subtype
abbrev pub HasSubtype : File → List Property → Type 0
HasSubtype f ps = Contains (property_names f ps) (codes "subtype")

-- a resource definition is of uint32, and has a subtype and perhaps rights
pub record ResourceHolds (files : List File) (number : ℕ) (f : File) (d : ResourceDefinition)
    : Type 0 where
  pub uint32 : IsUint32 files number (type_view d.constructor)
  pub properties : AllByRecursion (PropertyHolds files number f) d.properties.members.items
  pub subtype : HasSubtype f d.properties.members.items

-- what is declared is proper where it is a resource definition
abbrev pub BodyHolds : List File → (number : ℕ) → File → DeclarationBody → Type 0
BodyHolds files number f (body.Resource d) = ResourceHolds files number f d
BodyHolds files number f _ = Unit {0}

abbrev pub DeclarationHolds : List File → (number : ℕ) → File → Declaration → Type 0
DeclarationHolds files number f d = BodyHolds files number f d.body

-- each resource definition of the files
abbrev pub ResourcesHold : List File → Type 0
ResourcesHold files = (number : ℕ) (f : File) → slice_get files number ≡ Some f
    → AllByRecursion (DeclarationHolds files number f) f.declarations.items

-- What refusals say.

-- one of several properties has a type that does not suit: the place of that
pub record PropertyBreaks (files : List File) (number : ℕ) (f : File) (ps : List Property)
    (span : Span) : Type 0 where
  pub one : Property
  pub among : Contains ps one
  pub wrong : PropertyHolds files number f one → ⊥
  pub place : span ≡ type_span (type_view one.constructor)

-- a resource definition is wrong: at its underlying type, at the type of a property, or at its name
-- where it has no subtype
pub data ResourceBreaks (files : List File) (number : ℕ) (f : File) (d : ResourceDefinition)
    (span : Span) : Type 0 where
  by_underlying : (IsUint32 files number (type_view d.constructor) → ⊥)
      → span ≡ type_span (type_view d.constructor) → ResourceBreaks files number f d span
  by_property : PropertyBreaks files number f d.properties.members.items span
      → ResourceBreaks files number f d span
  by_lack : (HasSubtype f d.properties.members.items → ⊥) → span ≡ d.name
      → ResourceBreaks files number f d span

abbrev pub BodyBreaks : List File → (number : ℕ) → File → DeclarationBody → Span → Type 0
BodyBreaks files number f (body.Resource d) span = ResourceBreaks files number f d span
BodyBreaks files number f _ span = ⊥

-- one of several declarations is
pub record OneBreaks (files : List File) (number : ℕ) (f : File) (ds : List Declaration)
    (span : Span) : Type 0 where
  pub one : Declaration
  pub among : Contains ds one
  pub breaks : BodyBreaks files number f one.body span

-- one of the file of a place's number is, at its span
pub record BreaksAt (files : List File) (place : Place) : Type 0 where
  pub f : File
  pub file_at : slice_get files place.file ≡ Some f
  pub breaks : OneBreaks files place.file f f.declarations.items place.span

-- what a refusal says, by what it is to be wrong at a place; nothing where memory ran out
abbrev pub IsReport : (Breaks : Place → Type 0) → ResourceFault → Type 0
IsReport Breaks (BadConstraint place) = Breaks place
IsReport Breaks Memory = Unit {0}

-- of the files
abbrev pub IsTrueOfResources : List File → ResourceFault → Type 0
IsTrueOfResources files = IsReport (BreaksAt files)

-- of a part of the file of this number
abbrev pub IsReportIn : (number : ℕ) → (Breaks : Span → Type 0) → ResourceFault → Type 0
IsReportIn number Breaks = IsReport (λ place. (place.file ≡ number) × Breaks place.span)
