-- Members of the bits or the enum that a property is written as.
use Rattle.std.proofs.Common.{◌≡◌, ◌<◌, ℕ, List, Option, Some, length, subst, refl}
use Rattle.std.specs.Prelude.{slice_get}
use Rattle.std.proofs.lemmas.Option.{slice_get_within}
use Rattle.fidl_tree.specs.declared.file.File.{File}
use Rattle.fidl_tree.specs.Syntax.{Path}
use Rattle.fidl_tree.specs.declared.value_member.ValueMember.{ValueMember}
use Rattle.fidl_tree.specs.declared.type_constructor.ValuesLayout.{ValuesLayout, out-ValuesLayout}
use Rattle.fidl_named.specs.declared.place.DeclarationId.{DeclarationId}
use Rattle.fidl_named.specs.declared.meaning.Meaning.{Meaning}
use Rattle.fidl_named.specs.declared.meaning.Meaning.TheVariants as meaning
use Rattle.fidl_tree.specs.Views.{kind_view, value_view}
use Rattle.fidl_consts.specs.declared.const_type.NumberKind.{NumberKind}
use Rattle.fidl_consts.specs.declared.const_type.BitsOrEnum.TheVariants as layout
use Rattle.fidl_consts.specs.declared.const_type.ConstType.TheVariants as ty
use Rattle.fidl_consts.specs.declared.fault.ConstFault.{ConstFault}
use Rattle.fidl_consts.specs.PlainValues.{PlainValue}
use Rattle.fidl_consts.specs.Types.{IsPropertyValues, UnderlyingIs, path_of}
use Rattle.fidl_consts.specs.Values.{Offers, ValueIs}
use Rattle.fidl_consts.specs.Refusals.{ValueFails}
use Rattle.fidl_consts.specs.Constraints.{HasPropertyValue, PropertyMemberFails, UnderlyingFails}
use Rattle.fidl_consts.specs.Tables.{IsMemoryOr}
use Rattle.fidl_consts.proofs.Standing.{one_property_layout}
use Rattle.fidl_consts.proofs.Reports.{reports_more}

module _ (fs : List File) (p : DeclarationId) (n i : ℕ) where
  without_layout : ((f : File) (l : ValuesLayout) → IsPropertyValues fs p n f l → ⊥) → (m : Meaning) → HasPropertyValue fs m → m ≡ meaning.PropertyMember p n i → ⊥
  without_layout none m (HasPropertyValue.member q k f l j member its at) is =
      let same : (meaning.PropertyMember q k j) ≡ (meaning.PropertyMember p n i) = is in
      let id : q ≡ p = cc in
      let number : k ≡ n = cc in
      none f l (subst (λ x. IsPropertyValues fs x n f l) id (subst (λ x. IsPropertyValues fs q x f l) number its))

  pub no_layout : ((f : File) (l : ValuesLayout) → IsPropertyValues fs p n f l → ⊥) → HasPropertyValue fs (meaning.PropertyMember p n i) → ⊥
  no_layout none has = without_layout none (meaning.PropertyMember p n i) has refl

  module _ (f : File) (l : ValuesLayout) (found : IsPropertyValues fs p n f l) where
    without_member : (i < length (out-ValuesLayout l).members.items → ⊥) → (m : Meaning) → HasPropertyValue fs m → m ≡ meaning.PropertyMember p n i → ⊥
    without_member past m (HasPropertyValue.member q k g o j member its at) is =
        let same : (meaning.PropertyMember q k j) ≡ (meaning.PropertyMember p n i) = is in
        let id : q ≡ p = cc in
        let number : k ≡ n = cc in
        let place : j ≡ i = cc in
        let there = subst (λ x. IsPropertyValues fs x n g o) id (subst (λ x. IsPropertyValues fs q x g o) number its) in
        let one : o ≡ l = one_property_layout fs p g f n o l there found in
        past (subst (λ x. x < length (out-ValuesLayout l).members.items) place (subst (λ x. j < length (out-ValuesLayout x).members.items) one (slice_get_within (out-ValuesLayout o).members.items j member at)))

    pub no_member : (i < length (out-ValuesLayout l).members.items → ⊥) → HasPropertyValue fs (meaning.PropertyMember p n i) → ⊥
    no_member past has = without_member past (meaning.PropertyMember p n i) has refl

    module _ (underlying : Option Path) (path_is : underlying ≡ path_of (out-ValuesLayout l).underlying) where
      pub underlying_reported : (fault : ConstFault) → IsMemoryOr (UnderlyingFails fs f p.file (kind_view (out-ValuesLayout l).keyword) underlying) fault → IsMemoryOr (λ fault. PropertyMemberFails fs fault (meaning.PropertyMember p n i)) fault
      underlying_reported = reports_more (UnderlyingFails fs f p.file (kind_view (out-ValuesLayout l).keyword) underlying) (λ fault. PropertyMemberFails fs fault (meaning.PropertyMember p n i))
          (λ fault h. PropertyMemberFails.underlying p n f l i found (subst (λ u. UnderlyingFails fs f p.file (kind_view (out-ValuesLayout l).keyword) u fault) path_is h))

      module _ (kind : NumberKind) (kind_is : UnderlyingIs fs f (kind_view (out-ValuesLayout l).keyword) underlying (Some kind)) (member : ValueMember) (there : slice_get (out-ValuesLayout l).members.items i ≡ Some member) where
        pub value_reported : (fault : ConstFault) → IsMemoryOr (λ fault. ValueFails fs f p.file (ty.Number kind) fault (value_view member.value)) fault → IsMemoryOr (λ fault. PropertyMemberFails fs fault (meaning.PropertyMember p n i)) fault
        value_reported = reports_more (λ fault. ValueFails fs f p.file (ty.Number kind) fault (value_view member.value)) (λ fault. PropertyMemberFails fs fault (meaning.PropertyMember p n i))
            (λ fault h. PropertyMemberFails.value p n f l kind i member found (subst (λ u. UnderlyingIs fs f (kind_view (out-ValuesLayout l).keyword) u (Some kind)) path_is kind_is) there h)

        pub property_offers : (k : PlainValue) → ValueIs fs f (ty.Number kind) (value_view member.value) k → Offers fs (meaning.PropertyMember p n i) (ty.Values (layout.Property p n)) k
        property_offers k h = Offers.property_member p n f l kind i member k found (subst (λ u. UnderlyingIs fs f (kind_view (out-ValuesLayout l).keyword) u (Some kind)) path_is kind_is) there h
