-- The value of a handle's constraint is one: what its name means is one, and the type that its property wants.
use Rattle.std.proofs.Common.{rules, ◌≡◌, ℕ, List, [], ◌∷◌, Option, Some, None, refl, ap, sym, subst, ◌∙◌}
use Rattle.std.proofs.lemmas.Option.{none-some, same_Some}
use Rattle.fidl_tree.specs.declared.file.File.{File}
use Rattle.fidl_tree.specs.declared.path.Path as tree
use Rattle.fidl_tree.specs.Syntax.{Path, Value}
use Rattle.fidl_tree.specs.declared.declaration.Property.{Property}
use Rattle.fidl_tree.specs.declared.type_constructor.TypeConstructor.{TypeConstructor, out-TypeConstructor}
use Rattle.fidl_tree.specs.declared.type_constructor.LayoutBody.TheOpen.{TypeConstructor-F}
use Rattle.fidl_named.specs.declared.place.DeclarationId.{DeclarationId}
use Rattle.fidl_named.specs.declared.meaning.Meaning.{Meaning}
use Rattle.fidl_named.specs.declared.meaning.Meaning.TheVariants as meaning
use Rattle.fidl_named.specs.Aliases.{type_path}
use Rattle.fidl_named.specs.Constraints.{IsDeclaredMember, IsPropertyMember, IsOfProperty, ItemMeans, number_in, texts_of, written_members}
use Rattle.fidl_named.proofs.PropertyMembers.{is_this, property_id, property_file, property_number, property_same}
use Rattle.fidl_consts.specs.declared.const_type.ConstType.{ConstType}
use Rattle.fidl_consts.specs.PlainValues.{PlainValue}
use Rattle.fidl_consts.specs.Values.{Gives, offered}
use Rattle.fidl_consts.specs.Constraints.{ItemNameGives, ItemIs, HandleValueIs}
use Rattle.fidl_consts.proofs.OneValue.{one_value, one_offered}
use Rattle.fidl_consts.proofs.NoItem.{one_wants}

-- a type that is given by a name has no members written in it
no_members_written : (t : TypeConstructor) (q : tree.Path) → type_path t ≡ Some q → written_members t ≡ []
no_members_written t q = elim (out-TypeConstructor t) as (λ o. out-TypeConstructor t ≡ o → type_path t ≡ Some q → written_members t ≡ []) [
  | TypeConstructor-F.Named n ↦ λ is found. search (rules, is)
  | TypeConstructor-F.Layout w cs ↦ λ is found.
      let own : type_path t ≡ None = search (rules, is) in
      absurd (none-some q (sym own ∙ found))
] refl

module _ (files : List File) where
  module _ (f : File) (t : TypeConstructor) (n : List ℕ) where
    not_both : (i : ℕ) (q : tree.Path) → number_in (texts_of f (written_members t)) n ≡ Some i → type_path t ≡ Some q → ⊥
    not_both i q is path = let none : None ≡ Some i = sym (ap (λ ms. number_in (texts_of f ms) n) (no_members_written t q path)) ∙ is in none-some i none

    one_property_member : (p : DeclarationId) (property : ℕ) (a b : Meaning) → IsPropertyMember files p f property t n a → IsPropertyMember files p f property t n b → a ≡ b
    one_property_member p property a b (IsPropertyMember.written i is e) (IsPropertyMember.written j also d) =
        e ∙ ap (meaning.PropertyMember p property) (same_Some i j (sym is ∙ also)) ∙ sym d
    one_property_member p property a b (IsPropertyMember.written i is e) (IsPropertyMember.declared q path h) = absurd (not_both i q is path)
    one_property_member p property a b (IsPropertyMember.declared q path h) (IsPropertyMember.written i is e) = absurd (not_both i q is path)
    one_property_member p property a b (IsPropertyMember.declared q path h) (IsPropertyMember.declared r too k) =
        let same : r ≡ q = same_Some r q (sym too ∙ path) in
        let there : IsDeclaredMember files f q n b = subst (λ x. IsDeclaredMember files f x n b) same k in
        h.is ∙ sym (is_this files f q n h.first (meaning.Declared h.id) h.means h.resolved b there h.id refl h.file h.declaration h.number h.stands h.number_is)

  module _ (f : File) (end : Option Meaning) (rank : ℕ) (path : Path) where
    one_of_property : (a b : Meaning) → IsOfProperty files f end rank path a → IsOfProperty files f end rank path b → a ≡ b
    one_of_property a b h k =
        let id : k.id ≡ h.id = property_id files end rank h.id k.id h.file k.file h.number k.number h.property k.property h.is_for k.is_for in
        let file : k.file ≡ h.file = property_file files end rank h.id k.id h.file k.file h.number k.number h.property k.property h.is_for k.is_for in
        let number : k.number ≡ h.number = property_number files end rank h.id k.id h.file k.file h.number k.number h.property k.property h.is_for k.is_for in
        let property : k.property ≡ h.property = property_same files end rank h.id k.id h.file k.file h.number k.number h.property k.property h.is_for k.is_for in
        let both : k.name ∷ [] ≡ h.name ∷ [] = sym k.one_component ∙ h.one_component in
        let name : k.name ≡ h.name = cc in
        let at_id = subst (λ (x : DeclarationId). IsPropertyMember files x k.file k.number k.property.constructor k.name b) id k.member in
        let in_file = subst (λ (x : File). IsPropertyMember files h.id x k.number k.property.constructor k.name b) file at_id in
        let at_number = subst (λ (x : ℕ). IsPropertyMember files h.id h.file x k.property.constructor k.name b) number in_file in
        let of_property = subst (λ (x : Property). IsPropertyMember files h.id h.file h.number x.constructor k.name b) property at_number in
        let by_name = subst (λ x. IsPropertyMember files h.id h.file h.number h.property.constructor x b) name of_property in
        one_property_member h.file h.property.constructor h.name h.id h.number a b h.member by_name

    one_item : (a b : Meaning) → ItemMeans files f end rank path a → ItemMeans files f end rank path b → a ≡ b
    one_item a b (ItemMeans.of_property h) (ItemMeans.of_property k) = one_of_property a b h k
    one_item a b (ItemMeans.of_property h) (ItemMeans.ordinary_name none means) = absurd (none a h)
    one_item a b (ItemMeans.ordinary_name none means) (ItemMeans.of_property k) = absurd (none b k)
    one_item a b (ItemMeans.ordinary_name none means) (ItemMeans.ordinary_name also meant) = sym (means.1 b meant.0)

  one_given : (m : Meaning) (t : ConstType) (k l : PlainValue) → Gives files m t k → Gives files m t l → k ≡ l
  one_given _ _ k l (offered m own t _ h suits fits) (offered _ other _ _ i suit fit) = (one_offered files m own other k l h i).1

  module _ (f : File) (end : Meaning) (rank : ℕ) where
    one_of_item : (t : ConstType) (v : Value) (k l : PlainValue) → ItemIs files f end rank t v k → ItemIs files f end rank t v l → k ≡ l
    one_of_item t v k l (ItemIs.by_name path alone h) (ItemIs.by_name other also i) =
        let same : other ≡ path = same_Some other path (sym also ∙ alone) in
        let there : ItemNameGives files f end rank t path l = subst (λ p. ItemNameGives files f end rank t p l) same i in
        let means : there.meaning ≡ h.meaning = one_item f (Some end) rank path there.meaning h.meaning there.means h.means in
        one_given h.meaning t k l h.gives (subst (λ (m : Meaning). Gives files m t l) means there.gives)
    one_of_item t v k l (ItemIs.by_name path alone h) (ItemIs.expression none is) = absurd (none-some path (sym none ∙ alone))
    one_of_item t v k l (ItemIs.expression none is) (ItemIs.by_name path alone h) = absurd (none-some path (sym none ∙ alone))
    one_of_item t v k l (ItemIs.expression none is) (ItemIs.expression also is_too) = one_value files f t v k l is is_too

    pub one_handle : (v : Value) (k l : PlainValue) → HandleValueIs files f end rank v k → HandleValueIs files f end rank v l → k ≡ l
    one_handle v k l h i =
        let own : i.own ≡ h.own = same_Some i.own h.own (one_wants files end rank (Some i.own) (Some h.own) i.wants h.wants) in
        one_of_item h.own v k l h.is (subst (λ (t : ConstType). ItemIs files f end rank t v l) own i.is)
