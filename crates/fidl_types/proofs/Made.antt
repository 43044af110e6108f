-- The definitions of forms, from the terms of the types in them and the values of their members.
use Rattle.std.proofs.Common.{◌≡◌, ◌≢◌, ◌<◌, ◌≤◌, ◌^◌, ◌⊎◌, ℕ, zero, suc, ◌+◌, Bool, true, false, List, [], ◌∷◌, Option, Some, None, length, map, refl, sym, subst, inl, inr, arith}
use Rattle.std.specs.Prelude.{flat_map, slice_get}
use Rattle.std.specs.List.{AllByRecursion, AllPairs, AllZip, Contains}
use Rattle.std.proofs.lemmas.Bool.{cases_order}
use Rattle.std.proofs.lemmas.List.Elements.{Contains-append_left, Contains-append_right}
use Rattle.std.proofs.lemmas.Option.{same_Some, none-some}
use Rattle.fidl_tree.specs.Leaf.{text_at}
use Rattle.fidl_tree.specs.Syntax as plain
use Rattle.fidl_tree.specs.Syntax.{TypeUse, Response, Members, no_members, next_member, Member, named_member, ordinal_member, reserved_member}
use Rattle.fidl_tree.specs.Syntax.{Layout, values_layout, struct_layout, table_layout, union_layout}
use Rattle.fidl_tree.specs.Views.{file_view}
use Rattle.fidl_tree.specs.declared.file.File.{File}
use Rattle.fidl_consts.specs.Literals.{number_of}
use Rattle.fidl_consts.specs.Places.{PlacesHold}
use Rattle.fidl_consts.proofs.Among.{among_none, among_first, among_cases, among_flat}
use Rattle.fidl_declarations.specs.declared.step.Step.{Step}
use Rattle.fidl_declarations.specs.declared.step.Step.TheVariants as step
use Rattle.fidl_declarations.specs.Sites.{any_type, present_type, Site, type_site, layout_site, result_site, empty_response_site, attributes_site, within, file_sites}
use Rattle.fidl_declarations.specs.Forms.{Form, FormKind, layout_form, result_form, empty_response_form, layout_kinds, form_at, site_forms, file_forms, forms_from}
use Rattle.fidl_member_rules.specs.Ordinals.{member_ordinals, ordinal_numbers, IsOrdinal, OrdinalsHold}
use Rattle.fidl_member_rules.specs.ValueRules.{LayoutHolds as NumbersOfLayout, SiteHolds as NumbersAtSite, FileHolds as NumbersOfFile, ValuesHold}
use Rattle.fidl_member_rules.specs.Rules.{LayoutHolds, SiteHolds as RuleHolds, FileHolds as RulesOfFile, RulesHold}
use Rattle.fidl_wire.specs.Term as ty
use Rattle.fidl_wire.specs.Term.{Term, Fields, no_fields, field, Rows}
use Rattle.fidl_lower_types.specs.Numbers.{all_forms}
use Rattle.fidl_lower_types.specs.Terms.{TermIs}
use Rattle.fidl_type_rules.specs.Uses.{SiteHolds as UseAtSite, FileHolds as UsesOfFile, UsesHold}
use Rattle.fidl_lower_layouts.specs.Members.{members_in, own_row, FieldIs, FieldsAre, RowIs, RowsAre}
use Rattle.fidl_lower_layouts.proofs.Rising.{here, there, no_pairs, more_pairs, first_pairs, later_pairs}
use Rattle.fidl_lower_layouts.proofs.Ordered.{ordinal_of, Before, HasRow, rows_exist}
use Rattle.fidl_lower_layouts.specs.Results.{ResponseIs, ErrorIs, result_rows, IsResult, IsEmptyNumber}
use Rattle.fidl_lower_layouts.specs.Definitions.{LayoutIs, KindIs, DefinitionIs, DefinitionsAre}
use Rattle.fidl_types.proofs.Closed.{all_append, Has, MembersHave, LayoutHas, PartHas, EmptyHas, ResultHas, SiteHas, sites_have}
use Rattle.fidl_types.proofs.Placed.{LayoutPlaced, SitePlaced, sites_placed}
use Rattle.fidl_types.proofs.Numbers.{values_of}
use Rattle.fidl_types.proofs.First.{empty_number}

-- What holds of all holds of each.
pub all_among : {X : Type 0} (P : X → Type 0) (xs : List X) (x : X) → AllByRecursion P xs → Contains xs x → P x
all_among P [] x h among = absurd (among_none x among)
all_among P (y ∷ xs) x h among = elim (among_cases y x xs among) [
  | inl is ↦ subst P is h.0
  | inr later ↦ all_among P xs x h.1 later
]

-- the members of a struct are named: no other member is written in one
abbrev pub IsNamed : Member → Type 0
IsNamed (named_member attributes name t) = Unit {0}
IsNamed (ordinal_member attributes ordinal name t) = ⊥
IsNamed (reserved_member attributes ordinal) = ⊥

abbrev pub LayoutShaped : Layout → Type 0
LayoutShaped (values_layout values strict keyword u ms) = Unit {0}
LayoutShaped (struct_layout is_resource keyword ms) = AllByRecursion IsNamed (members_in ms)
LayoutShaped (table_layout is_resource keyword ms) = Unit {0}
LayoutShaped (union_layout strict is_resource keyword ms) = Unit {0}

abbrev pub SiteShaped : Site → Type 0
SiteShaped (layout_site path l) = LayoutShaped l
SiteShaped (type_site role t) = Unit {0}
SiteShaped (result_site path strict r) = Unit {0}
SiteShaped (empty_response_site path) = Unit {0}
SiteShaped (attributes_site attributes) = Unit {0}

-- a form has a definition
abbrev pub Defined : List File → Form → Type 0
Defined files form = (t : Term) × DefinitionIs files form t

low_ordinal : (last n : ℕ) → last ≤ 4294967295 → IsOrdinal last n → n < 2 ^ 32
low_ordinal last n few h = let most = h.1 in omega (arith, few, most)

module _ (files : List File) (number : ℕ) (f : File) (at : slice_get files number ≡ Some f) (uses : UsesOfFile files number f) where
  abbrev its : List Site
  its = file_sites (file_view f)

  abbrev HasTerm : TypeUse → Type 0
  HasTerm t = (e : Term) × TermIs files number t e

  any_term : (t : TypeUse) → Has its any_type t → HasTerm t
  any_term t h = let held = all_among (UseAtSite files number) its (type_site any_type t) uses h tt in (held.proper.term, held.proper.term_is)

  present_term : (t : TypeUse) → Has its present_type t → HasTerm t
  present_term t h = let held = all_among (UseAtSite files number) its (type_site present_type t) uses h tt in (held.proper.term, held.proper.term_is)

  -- Members.

  pub fields_of : (ms : Members) → MembersHave its any_type ms → AllByRecursion IsNamed (members_in ms) → (fs : Fields) × FieldsAre files number f (members_in ms) fs
  fields_of no_members h named = (no_fields, tt)
  fields_of (next_member (named_member attributes name t) ms) h named =
      let term = any_term t h.0 in
      let rest = fields_of ms h.1 named.1 in
      (field (text_at f.src.now name) term.0 rest.0, (FieldIs.named attributes name t term.0 term.1, rest.1))
  fields_of (next_member (ordinal_member attributes ordinal name t) ms) h named = absurd named.0
  fields_of (next_member (reserved_member attributes ordinal) ms) h named = absurd named.0

  its_row : (last : ℕ) → last ≤ 4294967295 → (ms : Members) → MembersHave its present_type ms → AllByRecursion (IsOrdinal last) (ordinal_numbers f.src.now (member_ordinals ms)) → (m : Member) → Contains (flat_map own_row (members_in ms)) m → HasRow files number f m
  its_row last few no_members h low m among = absurd (among_none m among)
  its_row last few (next_member (named_member attributes name t) ms) h low m among = its_row last few ms h.1 low m among
  its_row last few (next_member (reserved_member attributes ordinal) ms) h low m among = its_row last few ms h.1 low.1 m among
  its_row last few (next_member (ordinal_member attributes ordinal name t) ms) h low m among = elim (among_cases (ordinal_member attributes ordinal name t) m (flat_map own_row (members_in ms)) among) [
    | inl is ↦
        let term = present_term t h.0 in (
          number_of (text_at f.src.now ordinal),
          (text_at f.src.now name, (term.0, subst (λ (w : Member). RowIs files number f w (number_of (text_at f.src.now ordinal)) (text_at f.src.now name) term.0) is (RowIs.at attributes ordinal name t term.0 (low_ordinal last (number_of (text_at f.src.now ordinal)) few low.0) term.1))),
        )
    | inr later ↦ its_row last few ms h.1 low.1 m later
  ]

  -- the ordinal of a row is one of the members' ordinals
  its_ordinal : (ms : Members) (m : Member) → Contains (flat_map own_row (members_in ms)) m → Contains (ordinal_numbers f.src.now (member_ordinals ms)) (ordinal_of files number f m)
  its_ordinal no_members m among = absurd (among_none m among)
  its_ordinal (next_member (named_member attributes name t) ms) m among = its_ordinal ms m among
  its_ordinal (next_member (reserved_member attributes ordinal) ms) m among = there (number_of (text_at f.src.now ordinal)) (ordinal_numbers f.src.now (member_ordinals ms)) (ordinal_of files number f m) (its_ordinal ms m among)
  its_ordinal (next_member (ordinal_member attributes ordinal name t) ms) m among = elim (among_cases (ordinal_member attributes ordinal name t) m (flat_map own_row (members_in ms)) among) [
    | inl is ↦ subst (λ (w : Member). Contains (number_of (text_at f.src.now ordinal) ∷ ordinal_numbers f.src.now (member_ordinals ms)) (ordinal_of files number f w)) is (here (number_of (text_at f.src.now ordinal)) (ordinal_numbers f.src.now (member_ordinals ms)))
    | inr later ↦ there (number_of (text_at f.src.now ordinal)) (ordinal_numbers f.src.now (member_ordinals ms)) (ordinal_of files number f m) (its_ordinal ms m later)
  ]

  abbrev Ordered : Member → Member → Type 0
  Ordered m w = Before files number f m w ⊎ Before files number f w m

  -- ordinals that differ have an order
  ordered : (ms : Members) → AllPairs (λ m n. m ≢ n) (ordinal_numbers f.src.now (member_ordinals ms)) → AllPairs Ordered (flat_map own_row (members_in ms))
  ordered no_members h = no_pairs Ordered
  ordered (next_member (named_member attributes name t) ms) h = ordered ms h
  ordered (next_member (reserved_member attributes ordinal) ms) h = ordered ms (later_pairs (λ m n. m ≢ n) (number_of (text_at f.src.now ordinal)) (ordinal_numbers f.src.now (member_ordinals ms)) h)
  ordered (next_member (ordinal_member attributes ordinal name t) ms) h =
      let n = number_of (text_at f.src.now ordinal) in
      let rest = ordinal_numbers f.src.now (member_ordinals ms) in
      more_pairs Ordered (ordinal_member attributes ordinal name t) (flat_map own_row (members_in ms))
      (λ w among. apart n (ordinal_of files number f w) (first_pairs (λ m n. m ≢ n) n rest h (ordinal_of files number f w) (its_ordinal ms w among)))
      (ordered ms (later_pairs (λ m n. m ≢ n) n rest h))
    where
      apart : (m n : ℕ) → m ≢ n → (m < n) ⊎ (n < m)
      apart m n not = elim (cases_order m n) [ inl same ↦ absurd (not same) | inr other ↦ other ]

  pub rows_of : (last : ℕ) → last ≤ 4294967295 → (ms : Members) → MembersHave its present_type ms → OrdinalsHold f.src.now last (member_ordinals ms) → (rows : Rows) × RowsAre files number f (members_in ms) rows
  rows_of last few ms h hold = rows_exist files number f (members_in ms) (its_row last few ms h hold.within) (ordered ms hold.differ)

  -- Layouts.

  pub layout_definition : (optional : Bool) (l : Layout) → LayoutHas its l → LayoutPlaced files f l → LayoutShaped l → LayoutHolds f.src.now l → NumbersOfLayout files f l → (t : Term) × LayoutIs files number f optional l t
  layout_definition optional (values_layout values strict keyword u ms) h placed shaped rules_hold apart = values_of files f values strict u ms placed apart
  layout_definition optional (struct_layout is_resource keyword ms) h placed shaped rules_hold apart =
      let made = fields_of ms h shaped in (ty.struct made.0, record { fields = made.0; are = made.1; is = refl })
  layout_definition optional (table_layout is_resource keyword ms) h placed shaped rules_hold apart =
      let made = rows_of 64 (omega arith) ms h rules_hold.ordinals in (ty.table made.0, record { rows = made.0; are = made.1; is = refl })
  layout_definition optional (union_layout strict is_resource keyword ms) h placed shaped rules_hold apart =
      let made = rows_of 4294967295 (omega arith) ms h rules_hold.ordinals in (ty.union optional strict made.0, record { rows = made.0; are = made.1; is = refl })

  -- Results.

  abbrev ErrorHas : Option TypeUse → Type 0
  ErrorHas error = (e : Option Term) × ErrorIs files number error e

  error_term : (error : Option TypeUse) → PartHas its present_type error → ErrorHas error
  error_term None h = (None, tt)
  error_term (Some t) h = let term = present_term t h in (Some term.0, term.1)

  module _ (few : length (all_forms files) ≤ 2 ^ 32) (forms_of : (form : Form) → Contains (file_forms number (file_view f)) form → Contains (all_forms files) form) where
    abbrev empty_form : List Step → Form
    empty_form method = form_at number (file_view f) (within method step.Response) empty_response_form

    empty_among : (method : List Step) → Contains its (empty_response_site (within method step.Response)) → Contains (all_forms files) (empty_form method)
    empty_among method h =
        forms_of (empty_form method) (among_flat (site_forms number (file_view f)) its (empty_response_site (within method step.Response)) (empty_form method) h (among_first (empty_form method) []))

    response_of_empty : (method : List Step) → (i : ℕ) × IsEmptyNumber files number (within method step.Result) i → (e : Term) × ResponseIs files number (within method step.Result) None e
    response_of_empty method found = (ty.named found.0, (found.0, found.1, refl))

    response_term : (method : List Step) (payload : Option TypeUse) → PartHas its any_type payload → EmptyHas its method payload → (e : Term) × ResponseIs files number (within method step.Result) payload e
    response_term method (Some t) h empty = any_term t h
    response_term method None h empty =
        response_of_empty method (empty_number (all_forms files) number method (empty_form method) few (empty_among method empty)
        (record { kind_is = refl; file_is = refl; of_method = record { method = method; of_result = refl; of_response = refl } }))

    pub result_definition : (path : List Step) (strict : Bool) (r : Response) → ResultHas its path r → (t : Term) × IsResult files number path strict r t
    result_definition path strict r h =
        let response = response_term h.method r.payload h.payload h.empty in
        let error = error_term r.error h.error in
        let of_path : ResponseIs files number path r.payload response.0 = subst (λ (p : List Step). ResponseIs files number p r.payload response.0) (sym h.of_result) response.1 in
        (ty.union false true (result_rows strict response.0 error.0), record { response = response.0; error = error.0; response_is = of_path; error_is = error.1; is = refl })

    -- Forms.

    definition_at : (path : List Step) (kind : FormKind) → (t : Term) × KindIs files number f path kind t → Defined files (form_at number (file_view f) path kind)
    definition_at path kind h = (h.0, record { file = f; at = at; is = h.1 })

    layout_defined : (path : List Step) (optional : Bool) (l : Layout) → LayoutHas its l → LayoutPlaced files f l → LayoutShaped l → LayoutHolds f.src.now l → NumbersOfLayout files f l → Defined files (form_at number (file_view f) path (layout_form optional l))
    layout_defined path optional l h placed shaped holds apart = definition_at path (layout_form optional l) (layout_definition optional l h placed shaped holds apart)

    kinds_defined : (path : List Step) (l : Layout) → LayoutHas its l → LayoutPlaced files f l → LayoutShaped l → LayoutHolds f.src.now l → NumbersOfLayout files f l → AllByRecursion (Defined files) (map (form_at number (file_view f) path) (layout_kinds l))
    kinds_defined path (values_layout values strict keyword u ms) h placed shaped holds apart = (layout_defined path false (values_layout values strict keyword u ms) h placed shaped holds apart, tt)
    kinds_defined path (struct_layout is_resource keyword ms) h placed shaped holds apart = (layout_defined path false (struct_layout is_resource keyword ms) h placed shaped holds apart, tt)
    kinds_defined path (table_layout is_resource keyword ms) h placed shaped holds apart = (layout_defined path false (table_layout is_resource keyword ms) h placed shaped holds apart, tt)
    kinds_defined path (union_layout strict is_resource keyword ms) h placed shaped holds apart =
        (layout_defined path false (union_layout strict is_resource keyword ms) h placed shaped holds apart, (layout_defined path true (union_layout strict is_resource keyword ms) h placed shaped holds apart, tt))

    site_defined : (s : Site) → SiteHas its s → SitePlaced files f s → SiteShaped s → RuleHolds f.src.now s → NumbersAtSite files f s → AllByRecursion (Defined files) (site_forms number (file_view f) s)
    site_defined (layout_site path l) h placed shaped holds apart = kinds_defined path l h placed shaped holds apart
    site_defined (result_site path strict r) h placed shaped holds apart = (definition_at path (result_form strict r) (result_definition path strict r h), tt)
    site_defined (empty_response_site path) h placed shaped holds apart = (definition_at path empty_response_form (ty.struct no_fields, refl), tt)
    site_defined (type_site role t) h placed shaped holds apart = tt
    site_defined (attributes_site attributes) h placed shaped holds apart = tt

    sites_defined : (sites : List Site) → AllByRecursion (SiteHas its) sites → AllByRecursion (SitePlaced files f) sites → AllByRecursion SiteShaped sites → AllByRecursion (RuleHolds f.src.now) sites → AllByRecursion (NumbersAtSite files f) sites
        → AllByRecursion (Defined files) (flat_map (site_forms number (file_view f)) sites)
    sites_defined [] h placed shaped holds apart = tt
    sites_defined (s ∷ sites) h placed shaped holds apart =
        all_append (Defined files) (site_forms number (file_view f) s) (flat_map (site_forms number (file_view f)) sites) (site_defined s h.0 placed.0 shaped.0 holds.0 apart.0) (sites_defined sites h.1 placed.1 shaped.1 holds.1 apart.1)

    pub file_defined : PlacesHold files f → AllByRecursion SiteShaped its → RulesOfFile (file_view f) → NumbersOfFile files f → AllByRecursion (Defined files) (file_forms number (file_view f))
    file_defined places shaped holds apart = sites_defined its (sites_have (file_view f)) (sites_placed files f places) shaped holds.sites apart

-- All files.

module _ (files : List File) where
  forms_among : (n : ℕ) (rest : List File) (k : ℕ) (f : File) (form : Form) → slice_get rest k ≡ Some f → Contains (file_forms (k + n) (file_view f)) form → Contains (forms_from n (map file_view rest)) form
  forms_among n [] k f form at h = absurd (none-some f at)
  forms_among n (g ∷ rest) zero f form at h =
      Contains-append_left (file_forms n (file_view g)) (forms_from (suc n) (map file_view rest)) form
      (subst (λ (x : File). Contains (file_forms n (file_view x)) form) (sym (same_Some g f at)) (let none : zero + n ≡ n = omega arith in subst (λ m. Contains (file_forms m (file_view f)) form) none h))
  forms_among n (g ∷ rest) (suc k) f form at h =
      let again : suc k + n ≡ k + suc n = omega arith in
      Contains-append_right (file_forms n (file_view g)) (forms_from (suc n) (map file_view rest)) form
      (forms_among (suc n) rest k f form at (subst (λ m. Contains (file_forms m (file_view f)) form) again h))

  all_defined : (n : ℕ) (rest : List File) → ((k : ℕ) (f : File) → slice_get rest k ≡ Some f → AllByRecursion (Defined files) (file_forms (k + n) (file_view f))) → AllByRecursion (Defined files) (forms_from n (map file_view rest))
  all_defined n [] h = tt
  all_defined n (f ∷ rest) h =
      all_append (Defined files) (file_forms n (file_view f)) (forms_from (suc n) (map file_view rest))
      (let none : zero + n ≡ n = omega arith in subst (λ m. AllByRecursion (Defined files) (file_forms m (file_view f))) none (h zero f refl))
      (all_defined (suc n) rest (λ k g at.
      let again : suc k + n ≡ k + suc n = omega arith in
      subst (λ m. AllByRecursion (Defined files) (file_forms m (file_view g))) again (h (suc k) g at)))

  all_standing : {X : Type 0} (P : X → Type 0) (xs : List X) (i : ℕ) (x : X) → AllByRecursion P xs → slice_get xs i ≡ Some x → P x
  all_standing P [] i x h at = absurd (none-some x at)
  all_standing P (y ∷ xs) zero x h at = subst P (same_Some y x at) h.0
  all_standing P (y ∷ xs) (suc i) x h at = all_standing P xs i x h.1 at

  each_seen : (P : plain.File → Type 0) (fs : List File) → AllByRecursion P (map file_view fs) → AllByRecursion (λ (f : File). P (file_view f)) fs
  each_seen P [] h = tt
  each_seen P (f ∷ fs) h = (h.0, each_seen P fs h.1)

  -- what rules give
  module _ (places : AllByRecursion (PlacesHold files) files) (holds : RulesHold (map file_view files)) (numbers : ValuesHold files) (uses : UsesHold files) (few : length (all_forms files) ≤ 2 ^ 32)
      (shaped : (f : File) → AllByRecursion SiteShaped (file_sites (file_view f))) where
    forms_of_file : (k : ℕ) (f : File) → slice_get files k ≡ Some f → AllByRecursion (Defined files) (file_forms (k + 0) (file_view f))
    forms_of_file k f at =
        let same : k ≡ k + 0 = omega arith in
        subst (λ m. AllByRecursion (Defined files) (file_forms m (file_view f))) same
        (file_defined files k f at (uses k f at) few
        (λ form h. forms_among 0 files k f form at (subst (λ m. Contains (file_forms m (file_view f)) form) same h))
        (all_standing (PlacesHold files) files k f places at) (shaped f) (all_standing (λ (f : File). RulesOfFile (file_view f)) files k f (each_seen RulesOfFile files holds) at) (all_standing (NumbersOfFile files) files k f numbers at))

    pub forms_defined : AllByRecursion (Defined files) (all_forms files)
    forms_defined = all_defined 0 files forms_of_file

    definitions_of : (forms : List Form) → AllByRecursion (Defined files) forms → (ts : List Term) × AllZip (DefinitionIs files) forms ts
    definitions_of [] h = ([], tt)
    definitions_of (form ∷ forms) h = let rest = definitions_of forms h.1 in (h.0.0 ∷ rest.0, (h.0.1, rest.1))

    -- each form has its definition, and so the files have theirs
    pub definitions_exist : (ts : List Term) × DefinitionsAre files ts
    definitions_exist = definitions_of (all_forms files) forms_defined
