-- A form has at most one definition.
use Rattle.std.proofs.Common.{◌≡◌, ℕ, ℤ, Bool, true, false, List, [], ◌∷◌, Option, Some, None, map, refl, ap, sym, subst, ◌∙◌, inl, inr, arith}
use Rattle.std.specs.Prelude.{pos, ◌<ℤ◌}
use Rattle.std.specs.Cmp.{int_chain}
use Rattle.std.specs.Int.Signed.{<ℤ_irrefl}
use Rattle.std.specs.List.Sorted.{IsPermutation}
use Rattle.std.proofs.lemmas.Bool.{cases_lt}
use Rattle.std.proofs.lemmas.Option.{same_Some}
use Rattle.fidl_tree.specs.Syntax.{TypeUse, Response, Member, ValuesKind, bits_kind, enum_kind, Underlying, ValueMember, Layout, values_layout, struct_layout, table_layout, union_layout}
use Rattle.fidl_tree.specs.declared.file.File.{File}
use Rattle.fidl_named.specs.Places.{underlying_path}
use Rattle.fidl_consts.specs.declared.const_type.NumberKind.{NumberKind}
use Rattle.fidl_consts.specs.declared.const_type.ConstType.TheVariants as const
use Rattle.fidl_consts.specs.PlainValues.{a_number}
use Rattle.fidl_consts.proofs.OneType.{one_underlying}
use Rattle.fidl_consts.proofs.OneValue.{one_value}
use Rattle.fidl_declarations.specs.declared.step.Step.{Step}
use Rattle.fidl_declarations.specs.Forms.{Form, FormKind, layout_form, result_form, empty_response_form}
use Rattle.fidl_wire.specs.Term as ty
use Rattle.fidl_wire.specs.Term.{Term, Fields, no_fields, field, Rows, no_rows, row}
use Rattle.fidl_lower_types.specs.Numbers.{all_forms}
use Rattle.fidl_lower_types.proofs.OneTerm.{one_term}
use Rattle.fidl_member_rules.specs.Numbers.{HasNumber, NumbersAre}
use Rattle.fidl_member_rules.proofs.Listing.{zip_one}
use Rattle.fidl_lower_layouts.specs.Members.{members_in, FieldIs, FieldsAre, RowIs, EachRow, RowsAre}
use Rattle.fidl_lower_layouts.proofs.Rising.{one_moved}
use Rattle.fidl_lower_layouts.proofs.Ordered.{same_members}
use Rattle.fidl_lower_layouts.specs.Values.{kind_of, or_all, IsMaskOf, IsNumbered, ValuesAre}
use Rattle.fidl_lower_layouts.specs.Results.{IsFirstEmpty, ResponseIs, ErrorIs, result_rows, IsResult}
use Rattle.fidl_lower_layouts.specs.Definitions.{LayoutIs, KindIs, DefinitionIs, DefinitionsAre}

-- Members.

module _ (files : List File) (number : ℕ) (f : File) where
  one_field : (m : Member) (name other : List ℕ) (a b : Term) → FieldIs files number f m name a → FieldIs files number f m other b → (name ≡ other) × (a ≡ b)
  one_field _ _ _ _ _ (FieldIs.named attributes name t a h) (FieldIs.named _ _ _ b k) = (refl, one_term files number t a b h k)

  one_fields : (ms : List Member) (fs gs : Fields) → FieldsAre files number f ms fs → FieldsAre files number f ms gs → fs ≡ gs
  one_fields [] no_fields no_fields h k = refl
  one_fields [] no_fields (field name e gs) h k = absurd k
  one_fields [] (field name e fs) gs h k = absurd h
  one_fields (m ∷ ms) no_fields gs h k = absurd h
  one_fields (m ∷ ms) (field name e fs) no_fields h k = absurd k
  one_fields (m ∷ ms) (field name e fs) (field other d gs) h k =
      let first = one_field m name other e d h.0 k.0 in
      let rest = one_fields ms fs gs h.1 k.1 in
      let named : name ≡ other = first.0 in
      let term : e ≡ d = first.1 in
      cc

  one_row : (m : Member) (i j : ℕ) (name other : List ℕ) (a b : Term) → RowIs files number f m i name a → RowIs files number f m j other b → (i ≡ j) × ((name ≡ other) × (a ≡ b))
  one_row _ _ _ _ _ _ _ (RowIs.at attributes ordinal name t a low h) (RowIs.at _ _ _ _ b also k) = (refl, (refl, one_term files number t a b h k))

  each_row : (ms : List Member) (rs ss : Rows) → EachRow files number f ms rs → EachRow files number f ms ss → rs ≡ ss
  each_row [] no_rows no_rows h k = refl
  each_row [] no_rows (row n name e ss) h k = absurd k
  each_row [] (row n name e rs) ss h k = absurd h
  each_row (m ∷ ms) no_rows ss h k = absurd h
  each_row (m ∷ ms) (row n name e rs) no_rows h k = absurd k
  each_row (m ∷ ms) (row n name e rs) (row o other d ss) h k =
      let first = one_row m n o name other e d h.0 k.0 in
      let rest = each_row ms rs ss h.1 k.1 in
      let ordinal : n ≡ o = first.0 in
      let named : name ≡ other = first.1.0 in
      let term : e ≡ d = first.1.1 in
      cc

  -- the rows by rising ordinal
  one_rows : (ms : List Member) (rs ss : Rows) → RowsAre files number f ms rs → RowsAre files number f ms ss → rs ≡ ss
  one_rows ms rs ss h k = each_row k.members rs ss (subst (λ (l : List Member). EachRow files number f l rs) (same_members files number f ms rs ss h k) h.each) k.each

-- Numbers.

same_words : (ms ns : List ℕ) → map pos ms ≡ map pos ns → ms ≡ ns
same_words [] [] e = refl
same_words [] (n ∷ ns) e = absurd (cc)
same_words (m ∷ ms) [] e = absurd (cc)
same_words (m ∷ ms) (n ∷ ns) e =
    let first : pos m ≡ pos n = cc in
    let rest : map pos ms ≡ map pos ns = cc in
    let again = same_words ms ns rest in
    let same : m ≡ n = cc in
    cc

pub one_mask : (zs : List ℤ) (a b : ℕ) → IsMaskOf zs a → IsMaskOf zs b → a ≡ b
one_mask zs a b h k = h.is ∙ ap or_all (same_words h.words k.words (sym h.same ∙ k.same)) ∙ sym k.is

module _ (files : List File) (f : File) where
  one_number : (kind : NumberKind) (m : ValueMember) (y z : ℤ) → HasNumber files f kind m y → HasNumber files f kind m z → y ≡ z
  one_number kind m y z h k = let same : a_number y ≡ a_number z = one_value files f (const.Number kind) m.value (a_number y) (a_number z) h k in cc

  pub one_list : (kind : NumberKind) (ms : List ValueMember) (ys zs : List ℤ) → NumbersAre files f kind ms ys → NumbersAre files f kind ms zs → ys ≡ zs
  one_list kind = zip_one (HasNumber files f kind) (one_number kind)

  one_numbered : (kind : NumberKind) (values : ValuesKind) (strict : Bool) (ms : List ValueMember) (a b : Term) → IsNumbered files f kind values strict ms a → IsNumbered files f kind values strict ms b → a ≡ b
  one_numbered kind bits_kind false ms a b h k = h ∙ sym k
  one_numbered kind enum_kind false ms a b h k = h ∙ sym k
  one_numbered kind bits_kind true ms a b h k =
      let numbers = one_list kind ms k.numbers h.numbers k.are h.are in
      let mask = one_mask h.numbers h.mask k.mask h.masked (subst (λ zs. IsMaskOf zs k.mask) numbers k.masked) in
      h.is ∙ ap (λ n. ty.bits (kind_of kind) (Some n)) mask ∙ sym k.is
  one_numbered kind enum_kind true ms a b h k =
      let written = one_list kind ms h.written k.written h.are k.are in
      let moved : IsPermutation k.written h.numbers = subst (λ (zs : List ℤ). IsPermutation zs h.numbers) written h.same in
      let numbers = one_moved (λ (y z : ℤ). y <ℤ z) (λ z lt. <ℤ_irrefl lt) int_chain k.written h.numbers k.numbers moved k.same h.rise k.rise in
      h.is ∙ ap (λ zs. ty.enum (kind_of kind) (Some zs)) numbers ∙ sym k.is

  one_values : (values : ValuesKind) (strict : Bool) (u : Underlying) (ms : List ValueMember) (a b : Term) → ValuesAre files f values strict u ms a → ValuesAre files f values strict u ms b → a ≡ b
  one_values values strict u ms a b h k =
      let both : Some k.kind ≡ Some h.kind = one_underlying files f values (underlying_path u) (Some k.kind) (Some h.kind) k.of h.of in
      let kinds : k.kind ≡ h.kind = cc in
      one_numbered h.kind values strict ms a b h.is (subst (λ x. IsNumbered files f x values strict ms b) kinds k.is)

-- Results.

pub one_empty : (forms : List Form) (number : ℕ) (path : List Step) (i j : ℕ) → IsFirstEmpty forms number path i → IsFirstEmpty forms number path j → i ≡ j
one_empty forms number path i j h k = elim (cases_lt i j) [
  | inl lt ↦ absurd (k.first i h.form lt h.at h.is)
  | inr ge ↦ elim (cases_lt j i) [
    | inl lt ↦ absurd (h.first j k.form lt k.at k.is)
    | inr le ↦ omega (arith, ge, le)
  ]
]

module _ (files : List File) (number : ℕ) (path : List Step) where
  one_response : (payload : Option TypeUse) (a b : Term) → ResponseIs files number path payload a → ResponseIs files number path payload b → a ≡ b
  one_response (Some t) a b h k = one_term files number t a b h k
  one_response None a b h k = h.2 ∙ ap ty.named (one_empty (all_forms files) number path h.0 k.0 h.1 k.1) ∙ sym k.2

  one_error : (error : Option TypeUse) (a b : Option Term) → ErrorIs files number error a → ErrorIs files number error b → a ≡ b
  one_error None None None h k = refl
  one_error None None (Some b) h k = absurd k
  one_error None (Some a) b h k = absurd h
  one_error (Some t) None b h k = absurd h
  one_error (Some t) (Some a) None h k = absurd k
  one_error (Some t) (Some a) (Some b) h k = ap Some (one_term files number t a b h k)

  one_result : (strict : Bool) (r : Response) (a b : Term) → IsResult files number path strict r a → IsResult files number path strict r b → a ≡ b
  one_result strict r a b h k =
      let response = one_response r.payload h.response k.response h.response_is k.response_is in
      let error = one_error r.error h.error k.error h.error_is k.error_is in
      h.is ∙ ap (λ e. ty.union false true (result_rows strict e h.error)) response ∙ ap (λ e. ty.union false true (result_rows strict k.response e)) error ∙ sym k.is

-- Definitions.

module _ (files : List File) (number : ℕ) (f : File) where
  one_layout : (optional : Bool) (l : Layout) (a b : Term) → LayoutIs files number f optional l a → LayoutIs files number f optional l b → a ≡ b
  one_layout optional (values_layout values strict keyword u ms) a b h k = one_values files f values strict u ms a b h k
  one_layout optional (struct_layout is_resource keyword ms) a b h k = h.is ∙ ap ty.struct (one_fields files number f (members_in ms) h.fields k.fields h.are k.are) ∙ sym k.is
  one_layout optional (table_layout is_resource keyword ms) a b h k = h.is ∙ ap ty.table (one_rows files number f (members_in ms) h.rows k.rows h.are k.are) ∙ sym k.is
  one_layout optional (union_layout strict is_resource keyword ms) a b h k = h.is ∙ ap (ty.union optional strict) (one_rows files number f (members_in ms) h.rows k.rows h.are k.are) ∙ sym k.is

  one_kind : (path : List Step) (kind : FormKind) (a b : Term) → KindIs files number f path kind a → KindIs files number f path kind b → a ≡ b
  one_kind path (layout_form optional l) a b h k = one_layout optional l a b h k
  one_kind path (result_form strict r) a b h k = one_result files number path strict r a b h k
  one_kind path empty_response_form a b h k = h ∙ sym k

pub one_definition : (files : List File) (form : Form) (a b : Term) → DefinitionIs files form a → DefinitionIs files form b → a ≡ b
one_definition files form a b h k =
    let file : k.file ≡ h.file = same_Some k.file h.file (sym k.at ∙ h.at) in
    one_kind files form.file h.file form.path form.kind a b h.is (subst (λ (f : File). KindIs files form.file f form.path form.kind b) file k.is)

pub one_definitions : (files : List File) (as' bs : List Term) → DefinitionsAre files as' → DefinitionsAre files bs → as' ≡ bs
one_definitions files as' bs h k = zip_one (DefinitionIs files) (one_definition files) (all_forms files) as' bs h k
