-- Files that break a rule don't keep the rules.
use Rattle.std.proofs.Common.{◌≡◌, ◌<◌, ℕ, List, length, get_or, take, map, refl, ap, sym, subst, ◌∙◌, arith}
use Rattle.std.specs.Prelude.{◌≢◌, slice_get}
use Rattle.std.specs.List.{Contains, AllByRecursion}
use Rattle.std.proofs.lemmas.List.{get_or-take, length-take-le}
use Rattle.std.proofs.lemmas.List.Elements.{All-from_recursion}
use Rattle.std.proofs.lemmas.Option.{slice_get_within, get_or_from_slice_get}
use Rattle.std.proofs.Math.ListN.{get_or-map, length-map}
use Rattle.fidl_span.specs.declared.words.Span.{Span}
use Rattle.fidl_tree.specs.Leaf.{text_at}
use Rattle.fidl_tree.specs.Syntax.{Attribute, Layout, File}
use Rattle.fidl_named.specs.declared.place.Place.{Place}
use Rattle.fidl_consts.specs.Literals.{number_of}
use Rattle.fidl_member_rules.specs.declared.fault.RuleFault.{RuleFault}
use Rattle.fidl_member_rules.specs.declared.fault.RuleFault.TheVariants.{BadOrdinal, DuplicateOrdinal, EmptyStrict, OutOfProfile, Memory}
use Rattle.fidl_declarations.specs.Sites.{Site, type_site, layout_site, result_site, file_sites, empty_response_site, attributes_site}
use Rattle.fidl_member_rules.specs.Ordinals.{layout_ordinals, last_ordinal, ordinal_numbers, IsOrdinal, OrdinalsHold, IsOutside, IsRepeated}
use Rattle.fidl_member_rules.specs.Profile.{IsAvailable, IsOtherTransport, transport_attributes}
use Rattle.fidl_member_rules.specs.Rules.{Rule, ordinal_rule, duplicate_rule, members_rule, profile_rule, LayoutHolds, SiteHolds, TransportHolds, FileHolds, RulesHold, LayoutBreaks, AttributesBreak, SiteBreaks, FileBreaks, BreaksAt, IsTrueOfRules}

-- what holds of all holds of each
holds_of : {X : Type 0} (P : X → Type 0) (xs : List X) (x : X) → AllByRecursion P xs → Contains xs x → P x
holds_of P xs x h among = subst P among.2 (All-from_recursion P xs h among.0 x among.1)

outside_not : (src : List ℕ) (last : ℕ) (ordinals : List Span) (span : Span) → IsOutside src last ordinals span → OrdinalsHold src last ordinals → ⊥
outside_not src last ordinals span h holds =
    let k = h.among.0 in
    let lt = h.among.1 in
    let word = λ (s : Span). number_of (text_at src s) in
    let within : k < length (ordinal_numbers src ordinals) = omega (arith, lt, length-map ordinals word) in
    h.outside (subst (IsOrdinal last) (get_or-map word ordinals k span ∙ ap word h.among.2) (All-from_recursion (IsOrdinal last) (ordinal_numbers src ordinals) holds.within k (word span) within))

repeated_not : (src : List ℕ) (last : ℕ) (ordinals : List Span) (span : Span) → IsRepeated src ordinals span → OrdinalsHold src last ordinals → ⊥
repeated_not src last ordinals span h holds =
    let word = λ (s : Span). number_of (text_at src s) in
    let numbers = ordinal_numbers src ordinals in
    let rank = slice_get_within ordinals h.rank span h.stands in
    let long = length-map ordinals word in
    let within : h.rank < length numbers = omega (arith, rank, long) in
    let short : length (take h.rank numbers) ≡ h.rank = length-take-le h.rank numbers (omega (arith, within)) in
    let k = h.earlier.0 in
    let before = h.earlier.1 in
    let less : k < h.rank = omega (arith, before, short) in
    let first : get_or numbers k (word span) ≡ word span = sym (get_or-take h.rank numbers k (word span) less) ∙ h.earlier.2 in
    let second : get_or numbers h.rank (word span) ≡ word span = get_or-map word ordinals h.rank span ∙ ap word (get_or_from_slice_get ordinals h.rank span span h.stands) in
    holds.differ k h.rank (word span) less within (first ∙ sym second)

layout_not : (src : List ℕ) (l : Layout) (rule : Rule) (span : Span) → LayoutBreaks src l rule span → LayoutHolds src l → ⊥
layout_not src l ordinal_rule span h holds = outside_not src (last_ordinal l) (layout_ordinals l) span h holds.ordinals
layout_not src l duplicate_rule span h holds = repeated_not src (last_ordinal l) (layout_ordinals l) span h holds.ordinals
layout_not src l members_rule span h holds = holds.members h.0
layout_not src l profile_rule span h holds = absurd h

attributes_not : (Is : Attribute → Type 0) (attributes : List Attribute) (rule : Rule) (span : Span) → AttributesBreak Is attributes rule span → AllByRecursion (λ a. Is a → ⊥) attributes → ⊥
attributes_not Is attributes ordinal_rule span h holds = absurd h
attributes_not Is attributes duplicate_rule span h holds = absurd h
attributes_not Is attributes members_rule span h holds = absurd h
attributes_not Is attributes profile_rule span h holds = holds_of (λ a. Is a → ⊥) attributes h.attribute holds h.among h.such

site_not : (src : List ℕ) (site : Site) (rule : Rule) (span : Span) → SiteBreaks src site rule span → SiteHolds src site → ⊥
site_not src (layout_site path l) rule span h holds = layout_not src l rule span h holds
site_not src (attributes_site attributes) rule span h holds = attributes_not (IsAvailable src) attributes rule span h holds
site_not src (type_site role t) rule span h holds = absurd h
site_not src (result_site path strict r) rule span h holds = absurd h
site_not src (empty_response_site path) rule span h holds = absurd h

file_not : (f : File) (rule : Rule) (span : Span) → FileBreaks f rule span → FileHolds f → ⊥
file_not f rule span (FileBreaks.by_site h) holds = site_not f.source h.one rule span h.breaks (holds_of (SiteHolds f.source) (file_sites f) h.one holds.sites h.among)
file_not f rule span (FileBreaks.by_transport h) holds = attributes_not (IsOtherTransport f.source) (transport_attributes h.one) rule span h.breaks (holds_of (TransportHolds f.source) f.declarations h.one holds.transports h.among)

files_not : (files : List File) (rule : Rule) (place : Place) → BreaksAt files rule place → RulesHold files → ⊥
files_not files rule place h holds = file_not h.f rule place.span h.breaks (holds_of FileHolds files h.f holds (place.file, slice_get_within files place.file h.f h.file_at, get_or_from_slice_get files place.file h.f h.f h.file_at))

pub refused_not : (files : List File) (fault : RuleFault) → fault ≢ Memory → IsTrueOfRules files fault → RulesHold files → ⊥
refused_not files (BadOrdinal place) other h holds = files_not files ordinal_rule place h holds
refused_not files (DuplicateOrdinal place) other h holds = files_not files duplicate_rule place h holds
refused_not files (EmptyStrict place) other h holds = files_not files members_rule place h holds
refused_not files (OutOfProfile place) other h holds = files_not files profile_rule place h holds
refused_not files Memory other h holds = other refl
