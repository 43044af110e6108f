-- A handle's constraint that is refused has no value, since the property that it is for and what its name means are one.
use Rattle.std.proofs.Common.{rules, ◌≡◌, ℕ, List, [], ◌∷◌, Option, Some, None, refl, ap, sym, subst, ◌∙◌, inl, inr}
use Rattle.std.proofs.lemmas.Option.{none-some, same_Some}
use Rattle.fidl_tree.specs.declared.file.File.{File}
use Rattle.fidl_tree.specs.declared.path.Path as tree
use Rattle.fidl_tree.specs.Syntax.{ValuesKind, Path, Value}
use Rattle.fidl_tree.specs.declared.declaration.Property.{Property}
use Rattle.fidl_tree.specs.declared.type_constructor.TypeConstructor.{TypeConstructor, out-TypeConstructor}
use Rattle.fidl_tree.specs.declared.type_constructor.LayoutBody.TheOpen.{TypeConstructor-F}
use Rattle.fidl_tree.specs.declared.type_constructor.ValuesLayout.{out-ValuesLayout}
use Rattle.fidl_named.specs.declared.place.DeclarationId.{DeclarationId}
use Rattle.fidl_named.specs.declared.meaning.Meaning.{Meaning}
use Rattle.fidl_named.specs.declared.meaning.Meaning.TheVariants as meaning
use Rattle.fidl_named.specs.Aliases.{type_path}
use Rattle.fidl_named.specs.Constraints.{IsDeclaredMember, IsPropertyMember, IsOfProperty, ItemMeans, number_in, texts_of, written_members}
use Rattle.fidl_named.proofs.PropertyMembers.{is_this, property_id, property_file, property_number, property_same}
use Rattle.fidl_tree.specs.Views.{kind_view, value_view}
use Rattle.fidl_consts.specs.declared.fault.ConstFault.{ConstFault}
use Rattle.fidl_consts.specs.declared.const_type.ConstType.{ConstType}
use Rattle.fidl_consts.specs.declared.const_type.NumberKind.{NumberKind}
use Rattle.fidl_consts.specs.declared.const_type.ConstType.TheVariants as ty
use Rattle.fidl_consts.specs.PlainValues.{PlainValue}
use Rattle.fidl_consts.specs.Types.{PropertyIs, UnderlyingIs, LayoutIs, path_of}
use Rattle.fidl_consts.specs.Values.{HasValue, Offers, Gives, offered}
use Rattle.fidl_consts.specs.Constraints.{HasItemValue, HasPropertyValue, PropertyMemberFails, ItemNameGives, ItemNameFails, ItemIs, ItemFails, PropertyWants, UnderlyingFails}
use Rattle.fidl_consts.proofs.Standing.{one_file, one_property_layout}
use Rattle.fidl_consts.proofs.OneType.{one_type, one_underlying}
use Rattle.fidl_consts.proofs.OneValue.{carried}
use Rattle.fidl_consts.proofs.NoValue.{no_value, no_misfit}

-- a type that is given by a name has no members written in it
no_members_written : (t : TypeConstructor) (q : tree.Path) → type_path t ≡ Some q → written_members t ≡ []
no_members_written t q = elim (out-TypeConstructor t) as (λ o. out-TypeConstructor t ≡ o → type_path t ≡ Some q → written_members t ≡ []) [
  | TypeConstructor-F.Named n ↦ λ is found. search (rules, is)
  | TypeConstructor-F.Layout w cs ↦ λ is found.
      let own : type_path t ≡ None = search (rules, is) in
      absurd (none-some q (sym own ∙ found))
] refl

module _ (files : List File) where
  -- What a constraint's name means is one.

  module _ (f : File) (t : TypeConstructor) (n : List ℕ) where
    not_both : (i : ℕ) (q : tree.Path) → number_in (texts_of f (written_members t)) n ≡ Some i → type_path t ≡ Some q → ⊥
    not_both i q is path = let none : None ≡ Some i = sym (ap (λ ms. number_in (texts_of f ms) n) (no_members_written t q path)) ∙ is in none-some i none

    one_property_member : (p : DeclarationId) (property : ℕ) (a b : Meaning) → IsPropertyMember files p f property t n a → IsPropertyMember files p f property t n b → a ≡ b
    one_property_member p property a b (IsPropertyMember.written i is e) (IsPropertyMember.written j also d) =
        e ∙ ap (meaning.PropertyMember p property) (same_Some i j (sym is ∙ also)) ∙ sym d
    one_property_member p property a b (IsPropertyMember.written i is e) (IsPropertyMember.declared q path h) = absurd (not_both i q is path)
    one_property_member p property a b (IsPropertyMember.declared q path h) (IsPropertyMember.written i is e) = absurd (not_both i q is path)
    one_property_member p property a b (IsPropertyMember.declared q path h) (IsPropertyMember.declared r too k) =
        let same : r ≡ q = same_Some r q (sym too ∙ path) in
        let there : IsDeclaredMember files f q n b = subst (λ x. IsDeclaredMember files f x n b) same k in
        h.is ∙ sym (is_this files f q n h.first (meaning.Declared h.id) h.means h.resolved b there h.id refl h.file h.declaration h.number h.stands h.number_is)

  module _ (f : File) (end : Option Meaning) (rank : ℕ) (path : Path) where
    one_of_property : (a b : Meaning) → IsOfProperty files f end rank path a → IsOfProperty files f end rank path b → a ≡ b
    one_of_property a b h k =
        let id : k.id ≡ h.id = property_id files end rank h.id k.id h.file k.file h.number k.number h.property k.property h.is_for k.is_for in
        let file : k.file ≡ h.file = property_file files end rank h.id k.id h.file k.file h.number k.number h.property k.property h.is_for k.is_for in
        let number : k.number ≡ h.number = property_number files end rank h.id k.id h.file k.file h.number k.number h.property k.property h.is_for k.is_for in
        let property : k.property ≡ h.property = property_same files end rank h.id k.id h.file k.file h.number k.number h.property k.property h.is_for k.is_for in
        let both : k.name ∷ [] ≡ h.name ∷ [] = sym k.one_component ∙ h.one_component in
        let name : k.name ≡ h.name = cc in
        let at_id = subst (λ (x : DeclarationId). IsPropertyMember files x k.file k.number k.property.constructor k.name b) id k.member in
        let in_file = subst (λ (x : File). IsPropertyMember files h.id x k.number k.property.constructor k.name b) file at_id in
        let at_number = subst (λ (x : ℕ). IsPropertyMember files h.id h.file x k.property.constructor k.name b) number in_file in
        let of_property = subst (λ (x : Property). IsPropertyMember files h.id h.file h.number x.constructor k.name b) property at_number in
        let by_name = subst (λ x. IsPropertyMember files h.id h.file h.number h.property.constructor x b) name of_property in
        one_property_member h.file h.property.constructor h.name h.id h.number a b h.member by_name

    one_item : (a b : Meaning) → ItemMeans files f end rank path a → ItemMeans files f end rank path b → a ≡ b
    one_item a b (ItemMeans.of_property h) (ItemMeans.of_property k) = one_of_property a b h k
    one_item a b (ItemMeans.of_property h) (ItemMeans.ordinary_name none means) = absurd (none a h)
    one_item a b (ItemMeans.ordinary_name none means) (ItemMeans.of_property k) = absurd (none b k)
    one_item a b (ItemMeans.ordinary_name none means) (ItemMeans.ordinary_name also meant) = sym (means.1 b meant.0)

  -- The type that a property wants is one.

  one_property_type : (p : DeclarationId) (n : ℕ) (f : File) (t : TypeConstructor) (a b : Option ConstType) → PropertyIs files p n f t a → PropertyIs files p n f t b → a ≡ b
  one_property_type p n f t _ _ (PropertyIs.written l is) (PropertyIs.written m also) = refl
  one_property_type p n f t _ _ (PropertyIs.written l is) (PropertyIs.other b none type_is) = absurd (none-some l (sym none ∙ is))
  one_property_type p n f t _ _ (PropertyIs.other a none type_is) (PropertyIs.written l is) = absurd (none-some l (sym none ∙ is))
  one_property_type p n f t _ _ (PropertyIs.other a none type_is) (PropertyIs.other b also other) = one_type files f t a b type_is other

  pub one_wants : (end : Meaning) (rank : ℕ) (a b : Option ConstType) → PropertyWants files end rank a → PropertyWants files end rank b → a ≡ b
  one_wants end rank a b h k =
      let id : k.id ≡ h.id = property_id files (Some end) rank h.id k.id h.file k.file h.number k.number h.property k.property h.is_for k.is_for in
      let file : k.file ≡ h.file = property_file files (Some end) rank h.id k.id h.file k.file h.number k.number h.property k.property h.is_for k.is_for in
      let number : k.number ≡ h.number = property_number files (Some end) rank h.id k.id h.file k.file h.number k.number h.property k.property h.is_for k.is_for in
      let property : k.property ≡ h.property = property_same files (Some end) rank h.id k.id h.file k.file h.number k.number h.property k.property h.is_for k.is_for in
      let at_id = subst (λ (x : DeclarationId). PropertyIs files x k.number k.file k.property.constructor b) id k.is in
      let at_number = subst (λ (x : ℕ). PropertyIs files h.id x k.file k.property.constructor b) number at_id in
      let in_file = subst (λ (x : File). PropertyIs files h.id h.number x k.property.constructor b) file at_number in
      let of_property = subst (λ (x : Property). PropertyIs files h.id h.number h.file x.constructor b) property in_file in
      one_property_type h.id h.number h.file h.property.constructor a b h.is of_property

  -- Refusals.

  pub no_underlying : (f : File) (n : ℕ) (values : ValuesKind) (o : Option Path) (fault : ConstFault) (kind : NumberKind) → UnderlyingFails files f n values o fault → UnderlyingIs files f values o (Some kind) → ⊥
  no_underlying f n values None fault kind fails kind_is = absurd fails
  no_underlying f n values (Some path) fault kind fails kind_is = none-some kind (one_underlying files f values (Some path) None (Some kind) fails.0 kind_is)

  no_property_member : (fault : ConstFault) (m : Meaning) (own : ConstType) (k : PlainValue) → PropertyMemberFails files fault m → Offers files m own k → ⊥
  no_property_member fault _ _ k (PropertyMemberFails.underlying p n f l i found fails) (Offers.property_member _ _ g other kind _ v _ at of_kind there is) =
      let layouts : other ≡ l = one_property_layout files p g f n other l at found in
      let file : g ≡ f = one_file files p g f at.declaration found.declaration at.at found.at in
      let kind_is : LayoutIs files f l (Some kind) = subst (λ x. LayoutIs files f x (Some kind)) layouts (subst (λ (x : File). LayoutIs files x other (Some kind)) file of_kind) in
      no_underlying f p.file (kind_view (out-ValuesLayout l).keyword) (path_of (out-ValuesLayout l).underlying) fault kind fails kind_is
  no_property_member fault _ _ k (PropertyMemberFails.value p n f l kind i m found kind_is there fails) (Offers.property_member _ _ g other too _ v _ at of_kind here is) =
      let layouts : other ≡ l = one_property_layout files p g f n other l at found in
      let file : g ≡ f = one_file files p g f at.declaration found.declaration at.at found.at in
      no_value files f p.file (ty.Number kind) fault (value_view m.value) k fails (carried files f g l other kind too i m v k file layouts kind_is of_kind there here is)

  -- what offers a value has one
  offers_item : (m : Meaning) (own : ConstType) (k : PlainValue) → Offers files m own k → HasItemValue files m
  offers_item _ _ _ Offers.maximum = inl HasValue.maximum
  offers_item _ _ _ (Offers.constant p f c own k at typed is) = inl (HasValue.constant p f c at)
  offers_item _ _ _ (Offers.member p f l kind i m k at of_kind there is) = inl (HasValue.member p f l i m at there)
  offers_item _ _ _ (Offers.property_member p n f l kind i m k at of_kind there is) = inr (HasPropertyValue.member p n f l i m at there)

  gives_item : (m : Meaning) (t : ConstType) (k : PlainValue) → Gives files m t k → HasItemValue files m
  gives_item _ _ _ (offered m own t k h suits fits) = offers_item m own k h

  member_gives : (fault : ConstFault) (m : Meaning) (t : ConstType) (k : PlainValue) → PropertyMemberFails files fault m → Gives files m t k → ⊥
  member_gives fault _ _ _ fails (offered m own t k h suits fits) = no_property_member fault m own k fails h

  module _ (f : File) (n : ℕ) (end : Meaning) (rank : ℕ) (t : ConstType) where
    no_item_name : (path : Path) (fault : ConstFault) (k : PlainValue) → ItemNameFails files f n end rank t path fault → ItemNameGives files f end rank t path k → ⊥
    no_item_name path fault k (ItemNameFails.nothing none is) g = none g.meaning g.means
    no_item_name path fault k (ItemNameFails.valueless m means none is) g =
        none (subst (HasItemValue files) (one_item f (Some end) rank path g.meaning m g.means means) (gives_item g.meaning t k g.gives))
    no_item_name path fault k (ItemNameFails.member m means fails) g =
        member_gives fault m t k fails (subst (λ x. Gives files x t k) (one_item f (Some end) rank path g.meaning m g.means means) g.gives)
    no_item_name path fault k (ItemNameFails.misfit m means fails) g =
        no_misfit files m t _ fault k fails (subst (λ x. Gives files x t k) (one_item f (Some end) rank path g.meaning m g.means means) g.gives)

    pub no_item : (v : Value) (fault : ConstFault) (k : PlainValue) → ItemFails files f n end rank t v fault → ItemIs files f end rank t v k → ⊥
    no_item v fault k (ItemFails.by_name path alone fails) (ItemIs.by_name other also gives) =
        let same : other ≡ path = same_Some other path (sym also ∙ alone) in
        no_item_name path fault k fails (subst (λ p. ItemNameGives files f end rank t p k) same gives)
    no_item v fault k (ItemFails.by_name path alone fails) (ItemIs.expression none is) = none-some path (sym none ∙ alone)
    no_item v fault k (ItemFails.expression none fails) (ItemIs.by_name path alone gives) = none-some path (sym none ∙ alone)
    no_item v fault k (ItemFails.expression none fails) (ItemIs.expression also is) = no_value files f n t fault v k fails is
