-- The members of a defined table or union have different names.
use Rattle.std.proofs.Common.{◌≡◌, ℕ, ◌⊎◌, List, [], ◌∷◌, map, flat_map, refl, sym, ap, subst, inl, inr, ◌∙◌}
use Rattle.std.specs.Prelude.{Bool, true, false, Option, Some, None, slice_get, option_map, codes}
use Rattle.std.specs.List.{AllByRecursion, AllZip, Contains}
use Rattle.std.proofs.lemmas.List.Sorted.{IsPermutation-sym, Contains-permutation}
use Rattle.std.proofs.lemmas.Option.{slice_get-map}
use Rattle.fidl_span.specs.declared.words.Span.{Span}
use Rattle.fidl_tree.specs.Leaf.{text_at}
use Rattle.fidl_tree.specs.Syntax.{Members, no_members, next_member, Member, named_member, ordinal_member, reserved_member}
use Rattle.fidl_tree.specs.Syntax.{Layout, values_layout, struct_layout, table_layout, union_layout, ValuesKind, bits_kind, enum_kind}
use Rattle.fidl_tree.specs.Syntax.{ValueMember, TypeUse}
use Rattle.fidl_tree.specs.Views.{file_view}
use Rattle.fidl_tree.specs.declared.file.File.{File}
use Rattle.fidl_named.specs.Names.{IsOneOf, AreDistinct}
use Rattle.fidl_named.specs.MemberNames.{own_names, layout_names}
use Rattle.fidl_names.specs.MemberLists.{NamesDiffer, DistinctMembers}
use Rattle.fidl_consts.specs.Literals.{number_of}
use Rattle.fidl_consts.specs.declared.const_type.NumberKind.{NumberKind}
use Rattle.fidl_declarations.specs.declared.step.Step.{Step}
use Rattle.fidl_declarations.specs.Forms.{Form, FormKind, layout_form, result_form, empty_response_form}
use Rattle.fidl_wire.specs.Term.{Term, Rows, no_rows, row, rows_of}
use Rattle.fidl_ir.specs.Members.{member_types}
use Rattle.fidl_spelling.specs.Spells.{Bears}
use Rattle.fidl_spelling.specs.Readable.{AreNamesDistinct}
use Rattle.fidl_lower_types.specs.Numbers.{all_forms}
use Rattle.fidl_lower_layouts.specs.Members.{members_in, RowIs, own_row, EachRow, RowsAre}
use Rattle.fidl_lower_layouts.specs.Values.{IsNumbered}
use Rattle.fidl_lower_layouts.specs.Results.{framework_rows, error_rows, result_rows}
use Rattle.fidl_lower_layouts.specs.Definitions.{LayoutIs, KindIs, DefinitionIs, DefinitionsAre}
use Rattle.fidl_lower_layouts.proofs.Rising.{here, there, nothing_there, first_or_rest}
use Rattle.fidl_distinct_names.proofs.Forms.{KindDiffers, FormDiffers, forms_differ}
use Rattle.fidl_distinct_names.proofs.Plain.{ArePlain, fields_plain, rows_plain, result_plain}

-- what a definition's members keep: different names, and plain types
pub record IsSound (t : Term) : Type 0 where
  pub names : AreNamesDistinct (rows_of t)
  pub plain : ArePlain (member_types t)

no_names : AreNamesDistinct no_rows
no_names name i j h k = absurd h

module _ (files : List File) (number : ℕ) (f : File) where
  -- the member of this ordinal that bears a name
  abbrev Bearer : (ms : List Member) (name : List ℕ) (i : ℕ) → Type 0
  Bearer ms name i = (attributes : _) × ((ordinal : Span) × ((span : Span) × ((t : TypeUse) × (
      Contains ms (ordinal_member attributes ordinal span t) × ((i ≡ number_of (text_at f.src.now ordinal)) × (name ≡ text_at f.src.now span))))))

  first_bearer : (m : Member) (ms : List Member) (n : ℕ) (text name : List ℕ) (e : Term) (i : ℕ) → RowIs files number f m n text e → i ≡ n → name ≡ text → Bearer (m ∷ ms) name i
  first_bearer _ ms _ _ name _ i (RowIs.at attributes ordinal span t e low h) is named =
      (attributes, (ordinal, (span, (t, (here (ordinal_member attributes ordinal span t) ms, (is, named))))))

  bearer : (ms : List Member) (rows : Rows) (name : List ℕ) (i : ℕ) → EachRow files number f ms rows → Bears rows name i → Bearer ms name i
  bearer [] no_rows name i h b = absurd b
  bearer [] (row n text e rows) name i h b = absurd h
  bearer (m ∷ ms) no_rows name i h b = absurd h
  bearer (m ∷ ms) (row n text e rows) name i h (inl b) = first_bearer m ms n text name e i h.0 b.0 b.1
  bearer (m ∷ ms) (row n text e rows) name i h (inr b) =
      let r = bearer ms rows name i h.1 b in
      (r.0, (r.1.0, (r.1.1.0, (r.1.1.1.0, (there m ms (ordinal_member r.0 r.1.0 r.1.1.0 r.1.1.1.0) r.1.1.1.1.0, r.1.1.1.1.1)))))

  -- a member stands among those that are written
  abbrev own : Members → List Member
  own ms = flat_map own_row (members_in ms)

  abbrev texts : Members → List (List ℕ)
  texts ms = map (text_at f.src.now) (own_names ms)

  its_text : (ms : Members) (attributes : _) (ordinal span : Span) (t : TypeUse) → Contains (own ms) (ordinal_member attributes ordinal span t) → IsOneOf (texts ms) (text_at f.src.now span)
  its_text no_members attributes ordinal span t c = absurd (nothing_there (ordinal_member attributes ordinal span t) c)
  its_text (next_member (named_member a name u) ms) attributes ordinal span t c = inr (its_text ms attributes ordinal span t c)
  its_text (next_member (reserved_member a o) ms) attributes ordinal span t c = its_text ms attributes ordinal span t c
  its_text (next_member (ordinal_member a o name u) ms) attributes ordinal span t c =
      elim (first_or_rest (ordinal_member a o name u) (own ms) (ordinal_member attributes ordinal span t) c) [
        | inl is ↦ let same : name ≡ span = cc in inl (ap (text_at f.src.now) same)
        | inr later ↦ inr (its_text ms attributes ordinal span t later)
      ]

  -- two members of one name are one
  one_member : (ms : Members) → AreDistinct (texts ms) → (a b : _) (o p s q : Span) (t u : TypeUse) → Contains (own ms) (ordinal_member a o s t) → Contains (own ms) (ordinal_member b p q u)
      → text_at f.src.now s ≡ text_at f.src.now q → o ≡ p
  one_member no_members d a b o p s q t u c e same = absurd (nothing_there (ordinal_member a o s t) c)
  one_member (next_member (named_member x name v) ms) d a b o p s q t u c e same = one_member ms d.1 a b o p s q t u c e same
  one_member (next_member (reserved_member x z) ms) d a b o p s q t u c e same = one_member ms d a b o p s q t u c e same
  one_member (next_member (ordinal_member x z name v) ms) d a b o p s q t u c e same =
      elim (first_or_rest (ordinal_member x z name v) (own ms) (ordinal_member a o s t) c) [
        | inl is ↦ elim (first_or_rest (ordinal_member x z name v) (own ms) (ordinal_member b p q u) e) [
          | inl too ↦ cc
          | inr later ↦ absurd (d.0 (subst (IsOneOf (texts ms)) (let n : name ≡ s = cc in sym same ∙ ap (text_at f.src.now) (sym n)) (its_text ms b p q u later)))
        ]
        | inr rest ↦ elim (first_or_rest (ordinal_member x z name v) (own ms) (ordinal_member b p q u) e) [
          | inl too ↦ absurd (d.0 (subst (IsOneOf (texts ms)) (let n : name ≡ q = cc in same ∙ ap (text_at f.src.now) (sym n)) (its_text ms a o s t rest)))
          | inr later ↦ one_member ms d.1 a b o p s q t u rest later same
        ]
      ]

  rows_differ : (ms : Members) (rows : Rows) → AreDistinct (texts ms) → RowsAre files number f (members_in ms) rows → AreNamesDistinct rows
  rows_differ ms rows d h name i j b k =
      let back = IsPermutation-sym (own ms) h.members h.same in
      let x = bearer h.members rows name i h.each b in
      let y = bearer h.members rows name j h.each k in
      let xs = Contains-permutation h.members (own ms) (ordinal_member x.0 x.1.0 x.1.1.0 x.1.1.1.0) back x.1.1.1.1.0 in
      let ys = Contains-permutation h.members (own ms) (ordinal_member y.0 y.1.0 y.1.1.0 y.1.1.1.0) back y.1.1.1.1.0 in
      let one = one_member ms d x.0 y.0 x.1.0 y.1.0 x.1.1.0 y.1.1.0 x.1.1.1.0 y.1.1.1.0 xs ys (sym x.1.1.1.1.1.1 ∙ y.1.1.1.1.1.1) in
      x.1.1.1.1.1.0 ∙ ap (λ o. number_of (text_at f.src.now o)) one ∙ sym y.1.1.1.1.1.0

  no_members_sound : (t : Term) → rows_of t ≡ no_rows → member_types t ≡ [] → IsSound t
  no_members_sound t rows types = record { names = subst AreNamesDistinct (sym rows) no_names; plain = subst ArePlain (sym types) tt }

  numbered_sound : (kind : NumberKind) (values : ValuesKind) (strict : Bool) (ms : List ValueMember) (t : Term) → IsNumbered files f kind values strict ms t → IsSound t
  numbered_sound kind bits_kind false ms t h = subst IsSound (sym h) (no_members_sound _ refl refl)
  numbered_sound kind bits_kind true ms t h = subst IsSound (sym h.is) (no_members_sound _ refl refl)
  numbered_sound kind enum_kind false ms t h = subst IsSound (sym h) (no_members_sound _ refl refl)
  numbered_sound kind enum_kind true ms t h = subst IsSound (sym h.is) (no_members_sound _ refl refl)

  layout_sound : (optional : Bool) (l : Layout) (t : Term) → NamesDiffer f.src.now (layout_names l) → LayoutIs files number f optional l t → IsSound t
  layout_sound optional (values_layout values strict keyword u ms) t d h = numbered_sound h.kind values strict ms t h.is
  layout_sound optional (struct_layout is_resource keyword ms) t d h =
      subst IsSound (sym h.is) (record { names = no_names; plain = fields_plain files number f (members_in ms) h.fields h.are })
  layout_sound optional (table_layout is_resource keyword ms) t d h =
      subst IsSound (sym h.is) (record { names = rows_differ ms h.rows d h.are; plain = rows_plain files number f h.are.members h.rows h.are.each })
  layout_sound optional (union_layout strict is_resource keyword ms) t d h =
      subst IsSound (sym h.is) (record { names = rows_differ ms h.rows d h.are; plain = rows_plain files number f h.are.members h.rows h.are.each })

-- the three members of a result have different names

framework_differ : (strict : Bool) → AreNamesDistinct (framework_rows strict)
framework_differ true = no_names
framework_differ false = λ name i j h k. elim h [
  | inl b ↦ elim k [
    | inl c ↦ b.0 ∙ sym c.0
    | inr c ↦ absurd c
  ]
  | inr b ↦ absurd b
]

framework_name : (strict : Bool) (name : List ℕ) (i : ℕ) → Bears (framework_rows strict) name i → (i ≡ 3) × (name ≡ codes "framework_err")
framework_name true name i h = absurd h
framework_name false name i (inl b) = b
framework_name false name i (inr b) = absurd b

-- what is borne in the rest of a result
rest_name : (strict : Bool) (error : Option Term) (name : List ℕ) (i : ℕ) → Bears (error_rows error (framework_rows strict)) name i
    → ((i ≡ 2) × (name ≡ codes "err")) ⊎ ((i ≡ 3) × (name ≡ codes "framework_err"))
rest_name strict None name i h = inr (framework_name strict name i h)
rest_name strict (Some e) name i (inl b) = inl b
rest_name strict (Some e) name i (inr b) = inr (framework_name strict name i b)

abbrev AnyName : ℕ → List ℕ → Type 0
AnyName i name = ((i ≡ 1) × (name ≡ codes "response")) ⊎ (((i ≡ 2) × (name ≡ codes "err")) ⊎ ((i ≡ 3) × (name ≡ codes "framework_err")))

result_name : (strict : Bool) (response : Term) (error : Option Term) (name : List ℕ) (i : ℕ) → Bears (result_rows strict response error) name i → AnyName i name
result_name strict response error name i (inl b) = inl b
result_name strict response error name i (inr b) = inr (rest_name strict error name i b)

one_name : (name : List ℕ) (i j : ℕ) → AnyName i name → AnyName j name → i ≡ j
one_name name i j (inl a) (inl b) = a.0 ∙ sym b.0
one_name name i j (inl a) (inr (inl b)) = let e : codes "response" ≡ codes "err" = sym a.1 ∙ b.1 in absurd (cc e)
one_name name i j (inl a) (inr (inr b)) = let e : codes "response" ≡ codes "framework_err" = sym a.1 ∙ b.1 in absurd (cc e)
one_name name i j (inr (inl a)) (inl b) = let e : codes "err" ≡ codes "response" = sym a.1 ∙ b.1 in absurd (cc e)
one_name name i j (inr (inl a)) (inr (inl b)) = a.0 ∙ sym b.0
one_name name i j (inr (inl a)) (inr (inr b)) = let e : codes "err" ≡ codes "framework_err" = sym a.1 ∙ b.1 in absurd (cc e)
one_name name i j (inr (inr a)) (inl b) = let e : codes "framework_err" ≡ codes "response" = sym a.1 ∙ b.1 in absurd (cc e)
one_name name i j (inr (inr a)) (inr (inl b)) = let e : codes "framework_err" ≡ codes "err" = sym a.1 ∙ b.1 in absurd (cc e)
one_name name i j (inr (inr a)) (inr (inr b)) = a.0 ∙ sym b.0

result_differ : (strict : Bool) (response : Term) (error : Option Term) → AreNamesDistinct (result_rows strict response error)
result_differ strict response error name i j h k = one_name name i j (result_name strict response error name i h) (result_name strict response error name j k)

module _ (files : List File) (number : ℕ) (f : File) where
  kind_sound : (path : List Step) (kind : FormKind) (t : Term) → KindDiffers f.src.now kind → KindIs files number f path kind t → IsSound t
  kind_sound path (layout_form optional l) t d h = layout_sound files number f optional l t d h
  kind_sound path (result_form strict r) t d h = subst IsSound (sym h.is) (record {
    names = result_differ strict h.response h.error;
    plain = result_plain files number path r strict h.response h.error h.response_is h.error_is;
  })
  kind_sound path empty_response_form t d h = subst IsSound (sym h) (record { names = no_names; plain = tt })

form_sound : (files : List File) (form : Form) (t : Term) → FormDiffers (map file_view files) form → DefinitionIs files form t → IsSound t
form_sound files form t d h =
    let at : slice_get (map file_view files) form.file ≡ Some (file_view h.file) = slice_get-map file_view files form.file ∙ ap (option_map file_view) h.at in
    kind_sound files form.file h.file form.path form.kind t (d (file_view h.file) at) h.is

zip_sound : (files : List File) (forms : List Form) (ts : List Term) → AllByRecursion (FormDiffers (map file_view files)) forms → AllZip (DefinitionIs files) forms ts → AllByRecursion IsSound ts
zip_sound files [] [] d h = tt
zip_sound files [] (t ∷ ts) d h = absurd h
zip_sound files (form ∷ forms) [] d h = absurd h
zip_sound files (form ∷ forms) (t ∷ ts) d h = (form_sound files form t d.0 h.0, zip_sound files forms ts d.1 h.1)

-- each definition of files whose members have different names is sound
pub definitions_sound : (files : List File) (ts : List Term) → AllByRecursion (λ f. DistinctMembers (file_view f)) files → DefinitionsAre files ts → AllByRecursion IsSound ts
definitions_sound files ts d h = zip_sound files (all_forms files) ts (forms_differ files d) h
