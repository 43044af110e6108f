-- When the written types of files are proper and suit their places, and what each refusal says
-- (docs/language.md, "Uses of types").
use Rattle.std.specs.Prelude.{ℕ, ◌≡◌, true, false, List, Some, slice_get}
use Rattle.std.specs.List.{Contains, AllByRecursion}
use Rattle.fidl_span.specs.declared.words.Span.{Span}
use Rattle.fidl_tree.specs.Syntax.{TypeUse}
use Rattle.fidl_tree.specs.Views.{file_view}
use Rattle.fidl_tree.specs.declared.file.File.{File}
use Rattle.fidl_named.specs.declared.place.Place.{Place}
use Rattle.fidl_consts.specs.Refusals.{type_span}
use Rattle.fidl_constraints.specs.Behind.{Core}
use Rattle.fidl_constraints.specs.declared.parts.Part.{Part}
use Rattle.fidl_constraints.specs.Gives.{IsGathered}
use Rattle.fidl_declarations.specs.Sites.{Role, Site, type_site, layout_site, result_site}
use Rattle.fidl_declarations.specs.Sites.{empty_response_site, attributes_site, file_sites}
use Rattle.fidl_wire.specs.Term.{Term}
use Rattle.fidl_lower_types.specs.Terms.{TermIs}
use Rattle.fidl_type_rules.specs.declared.fault.UseFault.{UseFault}
use Rattle.fidl_type_rules.specs.declared.fault.UseFault.TheVariants.{BadConstraint, BadBox}
use Rattle.fidl_type_rules.specs.declared.fault.UseFault.TheVariants.{OptionalMember, OutOfProfile}
use Rattle.fidl_type_rules.specs.declared.fault.UseFault.TheVariants.{Memory}
use Rattle.fidl_type_rules.specs.Words.{IsLeftOut, ArgumentsSuit, BoxesOther}
use Rattle.fidl_type_rules.specs.Made.{IsOfTerms}
use Rattle.fidl_type_rules.specs.Places.{WantsType, role_suits, presence_suits}

-- What files owe.

-- a type in the file of this number is proper at its place: it has a term, its arguments and its
-- constraints suit it, and it suits the place. Behind its aliases it is this, with these parts
pub record IsProper (files : List File) (number : ℕ) (role : Role) (t : TypeUse) (core : Core)
    (parts : List Part) : Type 0 where
  pub term : Term
  pub gathered : IsGathered files number t core parts
  pub term_is : TermIs files number t term
  pub arguments : ArgumentsSuit files number t
  pub place : role_suits role t core.head parts ≡ true

-- it is proper, and present where its place asks for that
pub record UseHolds (files : List File) (number : ℕ) (role : Role) (t : TypeUse) : Type 0 where
  pub core : Core
  pub parts : List Part
  pub proper : IsProper files number role t core parts
  pub present : presence_suits role core.head parts ≡ true

-- so is what stands at a site, where a type is wanted there
abbrev pub SiteHolds : List File → (number : ℕ) → Site → Type 0
SiteHolds files number (type_site role t) =
    WantsType files number role → UseHolds files number role t
SiteHolds files number (layout_site path l) = Unit {0}
SiteHolds files number (result_site path strict r) = Unit {0}
SiteHolds files number (empty_response_site path) = Unit {0}
SiteHolds files number (attributes_site attributes) = Unit {0}

-- each type that is written in the file of this number
abbrev pub FileHolds : List File → (number : ℕ) → File → Type 0
FileHolds files number f = AllByRecursion (SiteHolds files number) (file_sites (file_view f))

-- each type that is written in the files, in arguments and layouts too
abbrev pub UsesHold : List File → Type 0
UsesHold files = (number : ℕ) (f : File) → slice_get files number ≡ Some f
    → FileHolds files number f

-- What refusals say.

pub data Rule : Type 0 where
  constraint_rule : Rule
  box_rule : Rule
  member_rule : Rule
  profile_rule : Rule

-- a type is not proper by itself: what it is made of has terms, and it is neither left out of the
-- profile nor a box of no struct
pub record IsImproper (files : List File) (number : ℕ) (role : Role) (t : TypeUse) : Type 0 where
  pub improper : (core : Core) (parts : List Part) → IsProper files number role t core parts → ⊥
  pub made : IsOfTerms files number t
  pub kept : IsLeftOut files number t → ⊥
  pub boxed : (content : TypeUse) → BoxesOther files number t content → ⊥

-- it is a box of what is no struct: the place of that
pub record BoxesOtherAt (files : List File) (number : ℕ) (t : TypeUse) (span : Span) : Type 0 where
  pub content : TypeUse
  pub boxes : BoxesOther files number t content
  pub place : span ≡ type_span content

-- it may be absent at a place that asks for what is present
pub record IsOptionalMember (files : List File) (number : ℕ) (role : Role) (t : TypeUse) : Type 0
  where
    pub core : Core
    pub parts : List Part
    pub gathered : IsGathered files number t core parts
    pub absent : presence_suits role core.head parts ≡ false

-- a type breaks a rule: the place of its name or its keyword, and of what stands in a box
abbrev pub UseBreaks : List File → (number : ℕ) → Role → TypeUse → Rule → Span → Type 0
UseBreaks files number role t constraint_rule span =
    IsImproper files number role t × (span ≡ type_span t)
UseBreaks files number role t box_rule span = BoxesOtherAt files number t span
UseBreaks files number role t member_rule span =
    IsOptionalMember files number role t × (span ≡ type_span t)
UseBreaks files number role t profile_rule span =
    IsLeftOut files number t × (span ≡ type_span t)

-- what stands at a site does, where a type is wanted there
abbrev pub SiteBreaks : List File → (number : ℕ) → Site → Rule → Span → Type 0
SiteBreaks files number (type_site role t) rule span =
    WantsType files number role × UseBreaks files number role t rule span
SiteBreaks files number (layout_site path l) rule span = ⊥
SiteBreaks files number (result_site path strict r) rule span = ⊥
SiteBreaks files number (empty_response_site path) rule span = ⊥
SiteBreaks files number (attributes_site attributes) rule span = ⊥

-- one of several sites does
pub record OneBreaks (files : List File) (number : ℕ) (sites : List Site) (rule : Rule)
    (span : Span) : Type 0 where
  pub one : Site
  pub among : Contains sites one
  pub breaks : SiteBreaks files number one rule span

-- a site of the file of a place's number breaks a rule at its span
pub record BreaksAt (files : List File) (rule : Rule) (place : Place) : Type 0 where
  pub f : File
  pub file_at : slice_get files place.file ≡ Some f
  pub breaks : OneBreaks files place.file (file_sites (file_view f)) rule place.span

-- a refusal is true of files; that memory ran out says nothing of them
abbrev pub IsTrueOfUses : List File → UseFault → Type 0
IsTrueOfUses files (BadConstraint place) = BreaksAt files constraint_rule place
IsTrueOfUses files (BadBox place) = BreaksAt files box_rule place
IsTrueOfUses files (OptionalMember place) = BreaksAt files member_rule place
IsTrueOfUses files (OutOfProfile place) = BreaksAt files profile_rule place
IsTrueOfUses files Memory = Unit {0}
