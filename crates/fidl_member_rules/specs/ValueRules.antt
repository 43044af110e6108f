-- The rules of the numbers of bits and enums: when files keep them, and what each refusal says
-- (docs/language.md, "Numbers of members").
use Rattle.std.specs.Prelude.{ℕ, ◌≡◌, ◌≢◌, ℤ, List, Some, slice_get, take}
use Rattle.std.specs.List.{Contains, AllByRecursion, AllPairs}
use Rattle.fidl_span.specs.declared.words.Span.{Span}
use Rattle.fidl_tree.specs.Syntax.{ValuesKind, bits_kind, Underlying, ValueMember}
use Rattle.fidl_tree.specs.Syntax.{Layout, values_layout, struct_layout, table_layout, union_layout}
use Rattle.fidl_tree.specs.Views.{file_view}
use Rattle.fidl_tree.specs.declared.file.File.{File}
use Rattle.fidl_named.specs.declared.place.Place.{Place}
use Rattle.fidl_named.specs.Places.{underlying_path}
use Rattle.fidl_consts.specs.declared.const_type.NumberKind.{NumberKind}
use Rattle.fidl_consts.specs.Types.{UnderlyingIs}
use Rattle.fidl_declarations.specs.Sites.{Site, type_site, layout_site, result_site, file_sites}
use Rattle.fidl_declarations.specs.Sites.{empty_response_site, attributes_site}
use Rattle.fidl_member_rules.specs.declared.value_fault.ValuesFault.{ValuesFault}
use Rattle.fidl_member_rules.specs.declared.value_fault.ValuesFault.TheVariants.{DuplicateValue, NotPowerOfTwo}
use Rattle.fidl_member_rules.specs.declared.value_fault.ValuesFault.TheVariants.{Memory}
use Rattle.fidl_member_rules.specs.Numbers.{NumbersAre, IsPowerOfTwo}

-- What files owe. That each member has a number is owed by evaluation (docs/language.md,
-- "Evaluating").

-- no two numbers are the same, and those of bits are powers of two
pub record NumbersHold (values : ValuesKind) (zs : List ℤ) : Type 0 where
  pub differ : AllPairs (λ y z. y ≢ z) zs
  pub powers : values ≡ bits_kind → AllByRecursion IsPowerOfTwo zs

-- the members of bits or an enum of this underlying type have these numbers
pub record MembersAre (files : List File) (f : File) (values : ValuesKind) (u : Underlying)
    (ms : List ValueMember) (zs : List ℤ) : Type 0 where
  pub kind : NumberKind
  pub of : UnderlyingIs files f values (underlying_path u) (Some kind)
  pub are : NumbersAre files f kind ms zs

-- whatever numbers the members of a layout have keep the rules
abbrev pub LayoutHolds : List File → File → Layout → Type 0
LayoutHolds files f (values_layout values strict keyword u ms) =
    (zs : List ℤ) → MembersAre files f values u ms zs → NumbersHold values zs
LayoutHolds files f (struct_layout is_resource keyword ms) = Unit {0}
LayoutHolds files f (table_layout is_resource keyword ms) = Unit {0}
LayoutHolds files f (union_layout strict is_resource keyword ms) = Unit {0}

abbrev pub SiteHolds : List File → File → Site → Type 0
SiteHolds files f (layout_site path l) = LayoutHolds files f l
SiteHolds files f (type_site role t) = Unit {0}
SiteHolds files f (result_site path strict r) = Unit {0}
SiteHolds files f (empty_response_site path) = Unit {0}
SiteHolds files f (attributes_site attributes) = Unit {0}

-- so does each layout of a file, and of each file
abbrev pub FileHolds : List File → File → Type 0
FileHolds files f = AllByRecursion (SiteHolds files f) (file_sites (file_view f))

abbrev pub ValuesHold : List File → Type 0
ValuesHold files = AllByRecursion (FileHolds files) files

-- What refusals say.

pub data Rule : Type 0 where
  duplicate_rule : Rule
  power_rule : Rule

-- a number is one of bits, and no power of two
abbrev pub IsNoPower : ValuesKind → ℤ → Type 0
IsNoPower values z = (values ≡ bits_kind) × (IsPowerOfTwo z → ⊥)

-- a number breaks a rule: a number before it is the same, or it is one of bits and no power of two
abbrev pub NumberBreaks : ValuesKind → (zs : List ℤ) → (rank : ℕ) → ℤ → Rule → Type 0
NumberBreaks values zs rank z duplicate_rule = Contains (take rank zs) z
NumberBreaks values zs rank z power_rule = IsNoPower values z

-- the number of the member whose name stands at this span does
pub record MemberBreaks (values : ValuesKind) (ms : List ValueMember) (zs : List ℤ) (rule : Rule)
    (span : Span) : Type 0 where
  pub rank : ℕ
  pub member : ValueMember
  pub at : slice_get ms rank ≡ Some member
  pub name_is : member.name ≡ span
  pub number : ℤ
  pub number_at : slice_get zs rank ≡ Some number
  pub breaks : NumberBreaks values zs rank number rule

-- a member of bits or an enum does
pub record ValuesBreak (files : List File) (f : File) (values : ValuesKind) (u : Underlying)
    (ms : List ValueMember) (rule : Rule) (span : Span) : Type 0 where
  pub numbers : List ℤ
  pub are : MembersAre files f values u ms numbers
  pub breaks : MemberBreaks values ms numbers rule span

abbrev pub LayoutBreaks : List File → File → Layout → Rule → Span → Type 0
LayoutBreaks files f (values_layout values strict keyword u ms) rule span =
    ValuesBreak files f values u ms rule span
LayoutBreaks files f (struct_layout is_resource keyword ms) rule span = ⊥
LayoutBreaks files f (table_layout is_resource keyword ms) rule span = ⊥
LayoutBreaks files f (union_layout strict is_resource keyword ms) rule span = ⊥

abbrev pub SiteBreaks : List File → File → Site → Rule → Span → Type 0
SiteBreaks files f (layout_site path l) rule span = LayoutBreaks files f l rule span
SiteBreaks files f (type_site role t) rule span = ⊥
SiteBreaks files f (result_site path strict r) rule span = ⊥
SiteBreaks files f (empty_response_site path) rule span = ⊥
SiteBreaks files f (attributes_site attributes) rule span = ⊥

-- one of several sites does
pub record OneBreaks (files : List File) (f : File) (sites : List Site) (rule : Rule) (span : Span)
    : Type 0 where
  pub site : Site
  pub among : Contains sites site
  pub breaks : SiteBreaks files f site rule span

-- one of a file does
abbrev pub FileBreaks : List File → File → Rule → Span → Type 0
FileBreaks files f = OneBreaks files f (file_sites (file_view f))

-- files break a rule at a place: the file of its number does, at its span
pub record BreaksAt (files : List File) (rule : Rule) (place : Place) : Type 0 where
  pub f : File
  pub file_at : slice_get files place.file ≡ Some f
  pub breaks : FileBreaks files f rule place.span

-- what a refusal says, by what it is to break a rule at a place; nothing where memory ran out
abbrev pub IsReport : (Breaks : Rule → Place → Type 0) → ValuesFault → Type 0
IsReport Breaks (DuplicateValue place) = Breaks duplicate_rule place
IsReport Breaks (NotPowerOfTwo place) = Breaks power_rule place
IsReport Breaks Memory = Unit {0}

-- of the files
abbrev pub IsTrueOfValues : List File → ValuesFault → Type 0
IsTrueOfValues files = IsReport (BreaksAt files)

-- of a part of the file of this number
abbrev pub IsReportIn : (number : ℕ) → (Breaks : Rule → Span → Type 0) → ValuesFault → Type 0
IsReportIn number Breaks =
    IsReport (λ rule place. (place.file ≡ number) × Breaks rule place.span)
