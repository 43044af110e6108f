-- A value is one: an expression has at most one where a type is wanted, and a meaning offers at most one, of one type.
use Rattle.std.proofs.Common.{◌≡◌, ℕ, List, [], Some, refl, ap, sym, subst, ◌∙◌}
use Rattle.std.specs.Prelude.{slice_get}
use Rattle.std.proofs.lemmas.Option.{same_Some}
use Rattle.fidl_tree.specs.declared.file.File.{File}
use Rattle.fidl_tree.specs.Syntax.{Path, Operand, Value}
use Rattle.fidl_tree.specs.Syntax.{number_operand, string_operand, bool_operand, path_operand, group_operand}
use Rattle.fidl_tree.specs.declared.value_member.ValueMember.{ValueMember}
use Rattle.fidl_tree.specs.declared.declaration.Declaration.{Declaration}
use Rattle.fidl_tree.specs.declared.declaration.ConstDeclaration.{ConstDeclaration}
use Rattle.fidl_tree.specs.declared.declaration.DeclarationBody.TheVariants.{Const}
use Rattle.fidl_tree.specs.declared.type_constructor.ValuesLayout.{ValuesLayout, out-ValuesLayout}
use Rattle.fidl_named.specs.declared.place.DeclarationId.{DeclarationId}
use Rattle.fidl_named.specs.declared.meaning.Meaning.{Meaning}
use Rattle.fidl_named.specs.declared.meaning.Wanted.TheVariants as wanted
use Rattle.fidl_named.specs.Meanings.{IsReading}
use Rattle.fidl_named.specs.Paths.{texts}
use Rattle.fidl_tree.specs.Views.{value_view}
use Rattle.fidl_consts.specs.declared.const_type.ConstType.{ConstType}
use Rattle.fidl_consts.specs.declared.const_type.NumberKind.{NumberKind}
use Rattle.fidl_consts.specs.declared.const_type.ConstType.TheVariants as ty
use Rattle.fidl_consts.specs.PlainValues.{PlainValue, joined}
use Rattle.fidl_consts.specs.Types.{IsConstAt, TypeIs, LayoutIs}
use Rattle.fidl_consts.specs.Values.{first_operand, later_operands, literal, name_in, inside, ValueIs, OrOperandsAre, OperandIs, Gives, Offers, alone, several, none, one_more, literal_fits, group, named, offered}
use Rattle.fidl_consts.proofs.Standing.{one_file, one_declaration, one_layout, one_property_layout}
use Rattle.fidl_consts.proofs.OneType.{one_type, one_kind}

-- a literal has no parentheses, and is no name; what has parentheses is no name
pub no_group_of : (f : File) (x : Operand) (k : PlainValue) (v : Value) → literal f x ≡ Some k → inside x ≡ Some v → ⊥
no_group_of f (group_operand left value right) k v is also = absurd (cc)
no_group_of f (number_operand minus word) k v is also = absurd (cc)
no_group_of f (string_operand word) k v is also = absurd (cc)
no_group_of f (bool_operand b word) k v is also = absurd (cc)
no_group_of f (path_operand path) k v is also = absurd (cc)

pub no_name_of : (f : File) (x : Operand) (k : PlainValue) (p : Path) → literal f x ≡ Some k → name_in x ≡ Some p → ⊥
no_name_of f (group_operand left value right) k v is also = absurd (cc)
no_name_of f (number_operand minus word) k v is also = absurd (cc)
no_name_of f (string_operand word) k v is also = absurd (cc)
no_name_of f (bool_operand b word) k v is also = absurd (cc)
no_name_of f (path_operand path) k v is also = absurd (cc)

pub no_both_of : (x : Operand) (v : Value) (p : Path) → inside x ≡ Some v → name_in x ≡ Some p → ⊥
no_both_of (group_operand left value right) k v is also = absurd (cc)
no_both_of (number_operand minus word) k v is also = absurd (cc)
no_both_of (string_operand word) k v is also = absurd (cc)
no_both_of (bool_operand b word) k v is also = absurd (cc)
no_both_of (path_operand path) k v is also = absurd (cc)

module _ (files : List File) where
  pub one_const : (p : DeclarationId) (f g : File) (c d : ConstDeclaration) → IsConstAt files p f c → IsConstAt files p g d → c ≡ d
  one_const p f g c d h k =
      let both : Const c ≡ Const d = sym h.body ∙ ap (λ (x : Declaration). x.body) (one_declaration files p f g h.declaration k.declaration h.at k.at) ∙ k.body in
      cc

  -- without operands after it a value is what it is
  pub all_of_none : (f : File) (t : ConstType) (k l : PlainValue) → OrOperandsAre files f t k [] l → l ≡ k
  all_of_none _ _ _ _ (none f t k) = refl

  -- a member's value, where its file and layout are known to be others
  pub carried : (f g : File) (layout other : ValuesLayout) (kind too : NumberKind) (n : ℕ) (m o : ValueMember) (l : PlainValue) → g ≡ f → other ≡ layout → LayoutIs files f layout (Some kind) → LayoutIs files g other (Some too)
      → slice_get (out-ValuesLayout layout).members.items n ≡ Some m → slice_get (out-ValuesLayout other).members.items n ≡ Some o → ValueIs files g (ty.Number too) (value_view o.value) l → ValueIs files f (ty.Number kind) (value_view m.value) l
  carried f g layout other kind too n m o l file_same layouts of_kind of_other there here i =
      let kind_too : LayoutIs files f layout (Some too) = subst (λ x. LayoutIs files f x (Some too)) layouts (subst (λ x. LayoutIs files x other (Some too)) file_same of_other) in
      let kinds : too ≡ kind = sym (one_kind files f layout kind too of_kind kind_too) in
      let members : o ≡ m = same_Some o m (sym here ∙ ap (λ x. slice_get (out-ValuesLayout x).members.items n) layouts ∙ there) in
      subst (λ (x : ValueMember). ValueIs files f (ty.Number kind) (value_view x.value) l) members (subst (λ x. ValueIs files f (ty.Number x) (value_view o.value) l) kinds (subst (λ x. ValueIs files x (ty.Number too) (value_view o.value) l) file_same i))

  mutual
    pub one_value : (f : File) (t : ConstType) (v : Value) (k l : PlainValue) → ValueIs files f t v k → ValueIs files f t v l → k ≡ l
    one_value _ _ _ k l (alone f t v _ no_more h) (alone _ _ _ _ also i) = one_operand f t (first_operand v) k l h i
    one_value _ _ _ k l (alone f t v _ no_more h) (several _ _ _ first _ joins i os fits) =
        one_operand f t (first_operand v) k first h i ∙ sym (all_of_none f t first l (subst (λ xs. OrOperandsAre files f t first xs l) no_more os))
    one_value _ _ _ k l (several f t v first _ joins h os fits) (alone _ _ _ _ no_more i) =
        all_of_none f t first k (subst (λ xs. OrOperandsAre files f t first xs k) no_more os) ∙ one_operand f t (first_operand v) first l h i
    one_value _ _ _ k l (several f t v first _ joins h os fits) (several _ _ _ other _ also i ps fit) =
        let same : other ≡ first = sym (one_operand f t (first_operand v) first other h i) in
        one_all f t first (later_operands v) k l os (subst (λ x. OrOperandsAre files f t x (later_operands v) l) same ps)

    pub one_all : (f : File) (t : ConstType) (before : PlainValue) (os : List Operand) (k l : PlainValue) → OrOperandsAre files f t before os k → OrOperandsAre files f t before os l → k ≡ l
    one_all _ _ _ _ _ _ (none f t k) (none _ _ _) = refl
    one_all _ _ _ _ k l (one_more f t before next _ o os h rest) (one_more _ _ _ other _ _ _ i more) =
        let same : other ≡ next = sym (one_operand f t o next other h i) in
        one_all f t (joined before next) os k l rest (subst (λ x. OrOperandsAre files f t (joined before x) os l) same more)

    pub one_operand : (f : File) (t : ConstType) (e : Operand) (k l : PlainValue) → OperandIs files f t e k → OperandIs files f t e l → k ≡ l
    one_operand _ _ _ k l (literal_fits f t e _ is of_type fits) (literal_fits _ _ _ _ also other fit) = same_Some k l (sym is ∙ also)
    one_operand _ _ _ k l (literal_fits f t e _ is of_type fits) (group _ _ _ v _ also i) = absurd (no_group_of f e k v is also)
    one_operand _ _ _ k l (literal_fits f t e _ is of_type fits) (named _ _ _ path m _ also means i) = absurd (no_name_of f e k path is also)
    one_operand _ _ _ k l (group f t e v _ is h) (literal_fits _ _ _ _ also other fit) = absurd (no_group_of f e l v also is)
    one_operand _ _ _ k l (group f t e v _ is h) (group _ _ _ w _ also i) =
        let same : w ≡ v = same_Some w v (sym also ∙ is) in
        one_value f t v k l h (subst (λ x. ValueIs files f t x l) same i)
    one_operand _ _ _ k l (group f t e v _ is h) (named _ _ _ path m _ also means i) = absurd (no_both_of e v path is also)
    one_operand _ _ _ k l (named f t e path m _ is means h) (literal_fits _ _ _ _ also other fit) = absurd (no_name_of f e l path also is)
    one_operand _ _ _ k l (named f t e path m _ is means h) (group _ _ _ v _ also i) = absurd (no_both_of e v path also is)
    one_operand _ _ _ k l (named f t e path m _ is means h) (named _ _ _ other n _ also means_too i) =
        let paths : other ≡ path = same_Some other path (sym also ∙ is) in
        let same : n ≡ m = means.1 n (subst (λ p. IsReading files f wanted.Value (texts f.src.now p) n) paths means_too.0) in
        one_given m t k l h (subst (λ x. Gives files x t l) same i)

    one_given : (m : Meaning) (t : ConstType) (k l : PlainValue) → Gives files m t k → Gives files m t l → k ≡ l
    one_given _ _ k l (offered m own t _ h suits fits) (offered _ other _ _ i suit fit) = (one_offered m own other k l h i).1

    pub one_offered : (m : Meaning) (a b : ConstType) (k l : PlainValue) → Offers files m a k → Offers files m b l → (a ≡ b) × (k ≡ l)
    one_offered _ _ _ _ _ Offers.maximum Offers.maximum = (refl, refl)
    one_offered _ a b k l (Offers.constant p f c _ _ at type is) (Offers.constant _ g d _ _ also other i) =
        let files_same : g ≡ f = sym (one_file files p f g at.declaration also.declaration at.at also.at) in
        let consts : d ≡ c = sym (one_const p f g c d at also) in
        let type_too : TypeIs files f c.constructor (Some b) = subst (λ (x : ConstDeclaration). TypeIs files f x.constructor (Some b)) consts (subst (λ x. TypeIs files x d.constructor (Some b)) files_same other) in
        let types : b ≡ a = same_Some b a (sym (one_type files f c.constructor (Some a) (Some b) type type_too)) in
        let value : ValueIs files f a (value_view c.value) l = subst (λ x. ValueIs files f x (value_view c.value) l) types (subst (λ (x : ConstDeclaration). ValueIs files f b (value_view x.value) l) consts (subst (λ x. ValueIs files x b (value_view d.value) l) files_same i)) in
        (sym types, one_value f a (value_view c.value) k l is value)
    one_offered _ _ _ k l (Offers.member p f layout kind n m _ at of_kind there is) (Offers.member _ g other too _ o _ also of_other here i) =
        (refl, one_value f (ty.Number kind) (value_view m.value) k l is (carried f g layout other kind too n m o l (sym (one_file files p f g at.declaration also.declaration at.at also.at)) (sym (one_layout files p f g layout other at also)) of_kind of_other there here i))
    one_offered _ _ _ k l (Offers.property_member p number f layout kind n m _ at of_kind there is) (Offers.property_member _ _ g other too _ o _ also of_other here i) =
        (refl, one_value f (ty.Number kind) (value_view m.value) k l is (carried f g layout other kind too n m o l (sym (one_file files p f g at.declaration also.declaration at.at also.at)) (sym (one_property_layout files p f g number layout other at also)) of_kind of_other there here i))
