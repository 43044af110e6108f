-- Files that break a rule don't keep the rules.
use Rattle.std.proofs.Common.{◌≡◌, ◌<◌, ℕ, ℤ, List, Some, length, get_or, take, refl, sym, subst, ◌∙◌, arith}
use Rattle.std.specs.Prelude.{◌≢◌, slice_get}
use Rattle.std.specs.List.{Contains, AllByRecursion}
use Rattle.std.proofs.lemmas.List.{get_or-take, length-take-le}
use Rattle.std.proofs.lemmas.List.Elements.{All-from_recursion}
use Rattle.std.proofs.lemmas.Option.{slice_get_within, get_or_from_slice_get}
use Rattle.fidl_span.specs.declared.words.Span.{Span}
use Rattle.fidl_tree.specs.Syntax.{Layout, values_layout, struct_layout, table_layout, union_layout, ValuesKind, ValueMember}
use Rattle.fidl_tree.specs.Views.{file_view}
use Rattle.fidl_tree.specs.declared.file.File.{File}
use Rattle.fidl_named.specs.declared.place.Place.{Place}
use Rattle.fidl_declarations.specs.Sites.{Site, type_site, layout_site, result_site, file_sites, empty_response_site, attributes_site}
use Rattle.fidl_member_rules.specs.declared.value_fault.ValuesFault.{ValuesFault}
use Rattle.fidl_member_rules.specs.declared.value_fault.ValuesFault.TheVariants.{DuplicateValue, NotPowerOfTwo, Memory}
use Rattle.fidl_member_rules.specs.Numbers.{IsPowerOfTwo}
use Rattle.fidl_member_rules.specs.ValueRules.{Rule, duplicate_rule, power_rule, NumbersHold, LayoutHolds, SiteHolds, FileHolds, ValuesHold, MemberBreaks, LayoutBreaks, SiteBreaks, FileBreaks, BreaksAt, IsTrueOfValues}

-- what holds of all holds of each
holds_of : {X : Type 0} (P : X → Type 0) (xs : List X) (x : X) → AllByRecursion P xs → Contains xs x → P x
holds_of P xs x h among = subst P among.2 (All-from_recursion P xs h among.0 x among.1)

there : {X : Type 0} (xs : List X) (i : ℕ) (x : X) → slice_get xs i ≡ Some x → Contains xs x
there xs i x at = (i, slice_get_within xs i x at, get_or_from_slice_get xs i x x at)

module _ (values : ValuesKind) (ms : List ValueMember) (zs : List ℤ) where
  numbers_not : (rule : Rule) (span : Span) → MemberBreaks values ms zs rule span → NumbersHold values zs → ⊥
  numbers_not duplicate_rule span h holds =
      let within : h.rank < length zs = slice_get_within zs h.rank h.number h.number_at in
      let short : length (take h.rank zs) ≡ h.rank = length-take-le h.rank zs (omega (arith, within)) in
      let k = h.breaks.0 in
      let before = h.breaks.1 in
      let less : k < h.rank = omega (arith, before, short) in
      let first : get_or zs k h.number ≡ h.number = sym (get_or-take h.rank zs k h.number less) ∙ h.breaks.2 in
      let second : get_or zs h.rank h.number ≡ h.number = get_or_from_slice_get zs h.rank h.number h.number h.number_at in
      holds.differ k h.rank h.number less within (first ∙ sym second)
  numbers_not power_rule span h holds = h.breaks.1 (holds_of IsPowerOfTwo zs h.number (holds.powers h.breaks.0) (there zs h.rank h.number h.number_at))

module _ (files : List File) (f : File) where
  layout_not : (l : Layout) (rule : Rule) (span : Span) → LayoutBreaks files f l rule span → LayoutHolds files f l → ⊥
  layout_not (values_layout values strict keyword u ms) rule span h holds = numbers_not values ms h.numbers rule span h.breaks (holds h.numbers h.are)
  layout_not (struct_layout is_resource keyword ms) rule span h holds = absurd h
  layout_not (table_layout is_resource keyword ms) rule span h holds = absurd h
  layout_not (union_layout strict is_resource keyword ms) rule span h holds = absurd h

  site_not : (site : Site) (rule : Rule) (span : Span) → SiteBreaks files f site rule span → SiteHolds files f site → ⊥
  site_not (layout_site path l) rule span h holds = layout_not l rule span h holds
  site_not (attributes_site attributes) rule span h holds = absurd h
  site_not (type_site role t) rule span h holds = absurd h
  site_not (result_site path strict r) rule span h holds = absurd h
  site_not (empty_response_site path) rule span h holds = absurd h

  file_not : (rule : Rule) (span : Span) → FileBreaks files f rule span → FileHolds files f → ⊥
  file_not rule span h holds = site_not h.site rule span h.breaks (holds_of (SiteHolds files f) (file_sites (file_view f)) h.site holds h.among)

files_not : (files : List File) (rule : Rule) (place : Place) → BreaksAt files rule place → ValuesHold files → ⊥
files_not files rule place h holds = file_not files h.f rule place.span h.breaks (holds_of (FileHolds files) files h.f holds (there files place.file h.f h.file_at))

pub refused_not : (files : List File) (fault : ValuesFault) → fault ≢ Memory → IsTrueOfValues files fault → ValuesHold files → ⊥
refused_not files (DuplicateValue place) other h holds = files_not files duplicate_rule place h holds
refused_not files (NotPowerOfTwo place) other h holds = files_not files power_rule place h holds
refused_not files Memory other h holds = other refl
