-- The rules of layouts and attributes that need no meanings: when files keep them, and what each
-- refusal says (docs/language.md, "Rules of layouts").
use Rattle.std.specs.Prelude.{ℕ, ◌≡◌, List, Some, slice_get}
use Rattle.std.specs.List.{Contains, AllByRecursion}
use Rattle.fidl_span.specs.declared.words.Span.{Span}
use Rattle.fidl_tree.specs.Syntax.{Attribute, Layout, Declaration, File}
use Rattle.fidl_named.specs.declared.place.Place.{Place}
use Rattle.fidl_member_rules.specs.declared.fault.RuleFault.{RuleFault}
use Rattle.fidl_member_rules.specs.declared.fault.RuleFault.TheVariants.{BadOrdinal, DuplicateOrdinal}
use Rattle.fidl_member_rules.specs.declared.fault.RuleFault.TheVariants.{EmptyStrict, OutOfProfile}
use Rattle.fidl_member_rules.specs.declared.fault.RuleFault.TheVariants.{Memory}
use Rattle.fidl_declarations.specs.Sites.{Site, type_site, layout_site, result_site, file_sites}
use Rattle.fidl_declarations.specs.Sites.{empty_response_site, attributes_site}
use Rattle.fidl_declarations.specs.Keywords.{layout_keyword}
use Rattle.fidl_member_rules.specs.Ordinals.{layout_ordinals, last_ordinal, OrdinalsHold, IsOutside}
use Rattle.fidl_member_rules.specs.Ordinals.{IsRepeated}
use Rattle.fidl_member_rules.specs.Strict.{IsEmptyStrict}
use Rattle.fidl_member_rules.specs.Profile.{IsAvailable, IsOtherTransport, transport_attributes}
use Rattle.fidl_member_rules.specs.Profile.{StandsAt}

-- What files owe.

pub record LayoutHolds (src : List ℕ) (l : Layout) : Type 0 where
  pub ordinals : OrdinalsHold src (last_ordinal l) (layout_ordinals l)
  pub members : IsEmptyStrict l → ⊥

abbrev pub SiteHolds : (src : List ℕ) → Site → Type 0
SiteHolds src (layout_site path l) = LayoutHolds src l
SiteHolds src (attributes_site attributes) =
    AllByRecursion (λ a. IsAvailable src a → ⊥) attributes
SiteHolds src (type_site role t) = Unit {0}
SiteHolds src (result_site path strict r) = Unit {0}
SiteHolds src (empty_response_site path) = Unit {0}

abbrev pub TransportHolds : (src : List ℕ) → Declaration → Type 0
TransportHolds src d = AllByRecursion (λ a. IsOtherTransport src a → ⊥) (transport_attributes d)

pub record FileHolds (f : File) : Type 0 where
  pub sites : AllByRecursion (SiteHolds f.source) (file_sites f)
  pub transports : AllByRecursion (TransportHolds f.source) f.declarations

abbrev pub RulesHold : List File → Type 0
RulesHold files = AllByRecursion FileHolds files

-- What refusals say.

pub data Rule : Type 0 where
  ordinal_rule : Rule
  duplicate_rule : Rule
  members_rule : Rule
  profile_rule : Rule

-- ordinals break a rule at this span
abbrev pub OrdinalsBreak : (src : List ℕ) → (last : ℕ) → List Span → Rule → Span → Type 0
OrdinalsBreak src last ordinals ordinal_rule span = IsOutside src last ordinals span
OrdinalsBreak src last ordinals duplicate_rule span = IsRepeated src ordinals span
OrdinalsBreak src last ordinals members_rule span = ⊥
OrdinalsBreak src last ordinals profile_rule span = ⊥

-- a layout does: where it lacks members, at its keyword
abbrev pub LayoutBreaks : (src : List ℕ) → Layout → Rule → Span → Type 0
LayoutBreaks src l ordinal_rule span = IsOutside src (last_ordinal l) (layout_ordinals l) span
LayoutBreaks src l duplicate_rule span = IsRepeated src (layout_ordinals l) span
LayoutBreaks src l members_rule span = IsEmptyStrict l × (span ≡ layout_keyword l)
LayoutBreaks src l profile_rule span = ⊥

-- attributes do: at the name of one that is such
abbrev pub AttributesBreak : (Is : Attribute → Type 0) → List Attribute → Rule → Span → Type 0
AttributesBreak Is attributes ordinal_rule span = ⊥
AttributesBreak Is attributes duplicate_rule span = ⊥
AttributesBreak Is attributes members_rule span = ⊥
AttributesBreak Is attributes profile_rule span = StandsAt Is attributes span

abbrev pub SiteBreaks : (src : List ℕ) → Site → Rule → Span → Type 0
SiteBreaks src (layout_site path l) rule span = LayoutBreaks src l rule span
SiteBreaks src (attributes_site attributes) rule span =
    AttributesBreak (IsAvailable src) attributes rule span
SiteBreaks src (type_site role t) rule span = ⊥
SiteBreaks src (result_site path strict r) rule span = ⊥
SiteBreaks src (empty_response_site path) rule span = ⊥

abbrev pub TransportBreaks : (src : List ℕ) → Declaration → Rule → Span → Type 0
TransportBreaks src d = AttributesBreak (IsOtherTransport src) (transport_attributes d)

-- one of several things does
pub record OneBreaks {X : Type 0} (Breaks : X → Rule → Span → Type 0) (xs : List X) (rule : Rule)
    (span : Span) : Type 0 where
  pub one : X
  pub among : Contains xs one
  pub breaks : Breaks one rule span

-- a file breaks a rule: one of its sites, or a declaration by its transport
pub data FileBreaks (f : File) (rule : Rule) (span : Span) : Type 0 where
  by_site : OneBreaks (SiteBreaks f.source) (file_sites f) rule span → FileBreaks f rule span
  by_transport : OneBreaks (TransportBreaks f.source) f.declarations rule span
      → FileBreaks f rule span

-- files break a rule at a place: the file of its number does, at its span
pub record BreaksAt (files : List File) (rule : Rule) (place : Place) : Type 0 where
  pub f : File
  pub file_at : slice_get files place.file ≡ Some f
  pub breaks : FileBreaks f rule place.span

-- what a refusal says, by what it is to break a rule at a place; nothing where memory ran out
abbrev pub IsReport : (Breaks : Rule → Place → Type 0) → RuleFault → Type 0
IsReport Breaks (BadOrdinal place) = Breaks ordinal_rule place
IsReport Breaks (DuplicateOrdinal place) = Breaks duplicate_rule place
IsReport Breaks (EmptyStrict place) = Breaks members_rule place
IsReport Breaks (OutOfProfile place) = Breaks profile_rule place
IsReport Breaks Memory = Unit {0}

-- of the files
abbrev pub IsTrueOfRules : List File → RuleFault → Type 0
IsTrueOfRules files = IsReport (BreaksAt files)

-- of a part of the file of this number
abbrev pub IsReportIn : (number : ℕ) → (Breaks : Rule → Span → Type 0) → RuleFault → Type 0
IsReportIn number Breaks =
    IsReport (λ rule place. (place.file ≡ number) × Breaks rule place.span)
