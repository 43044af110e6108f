-- What is known of a declaration, and of a member.
use Rattle.std.proofs.Common.{◌≡◌, ℕ, List, Some, refl, subst}
use Rattle.std.specs.Prelude.{slice_get}
use Rattle.fidl_tree.specs.declared.file.File.{File}
use Rattle.fidl_tree.specs.declared.value_member.ValueMember.{ValueMember}
use Rattle.fidl_tree.specs.declared.declaration.Declaration.{Declaration}
use Rattle.fidl_tree.specs.declared.type_constructor.ValuesLayout.{ValuesLayout, out-ValuesLayout}
use Rattle.fidl_named.specs.declared.place.Place.{Place}
use Rattle.fidl_named.specs.declared.place.DeclarationId.{DeclarationId}
use Rattle.fidl_named.specs.declared.meaning.Predeclared.{Predeclared}
use Rattle.fidl_named.specs.declared.meaning.Meaning.{Meaning}
use Rattle.fidl_named.specs.declared.meaning.Meaning.TheVariants as meaning
use Rattle.fidl_named.specs.Constraints.{IsDeclarationAt}
use Rattle.fidl_consts.specs.Types.{IsValuesAt}
use Rattle.fidl_consts.specs.Dependencies.{IsNode, IsKnownNode}

module _ (files : List File) where
  declared_of : (m : Meaning) (f : File) (place : Place) (p : DeclarationId) → m ≡ meaning.Declared p → IsNode files m f place → (g : File) × (d : Declaration) × IsDeclarationAt files p g d
  declared_of m f place p e (IsNode.declaration q g d h) = let same : q ≡ p = cc in (g, d, subst (λ (r : DeclarationId). IsDeclarationAt files r g d) same h)
  declared_of m f place p e (IsNode.member q g l i x h there) = absurd (cc)

  member_of : (m : Meaning) (f : File) (place : Place) (p : DeclarationId) (n : ℕ) → m ≡ meaning.Member p n → IsNode files m f place
      → (g : File) × (l : ValuesLayout) × (x : ValueMember) × IsValuesAt files p g l × (slice_get (out-ValuesLayout l).members.items n ≡ Some x)
  member_of m f place p n e (IsNode.declaration q g d h) = absurd (cc)
  member_of m f place p n e (IsNode.member q g l i x h there) =
      let same : q ≡ p = cc in
      let number : i ≡ n = cc in
      (g, l, x, subst (λ (r : DeclarationId). IsValuesAt files r g l) same h, subst (λ (k : ℕ). slice_get (out-ValuesLayout l).members.items k ≡ Some x) number there)

  pub declared_node : (p : DeclarationId) → IsKnownNode files (meaning.Declared p) → (g : File) × (d : Declaration) × IsDeclarationAt files p g d
  declared_node p h = declared_of (meaning.Declared p) h.file h.place p refl h.is

  pub member_node : (p : DeclarationId) (n : ℕ) → IsKnownNode files (meaning.Member p n)
      → (g : File) × (l : ValuesLayout) × (x : ValueMember) × IsValuesAt files p g l × (slice_get (out-ValuesLayout l).members.items n ≡ Some x)
  member_node p n h = member_of (meaning.Member p n) h.file h.place p n refl h.is

  not_node : (m : Meaning) (f : File) (place : Place) → ((p : DeclarationId) → m ≡ meaning.Declared p → ⊥) → ((p : DeclarationId) (n : ℕ) → m ≡ meaning.Member p n → ⊥) → IsNode files m f place → ⊥
  not_node m f place none other (IsNode.declaration q g d h) = none q refl
  not_node m f place none other (IsNode.member q g l i x h there) = other q i refl

  pub no_predeclared : (n : Predeclared) → IsKnownNode files (meaning.Predeclared n) → ⊥
  no_predeclared n h = not_node (meaning.Predeclared n) h.file h.place (λ p e. (cc)) (λ p i e. (cc)) h.is

  pub no_property_member : (p : DeclarationId) (n i : ℕ) → IsKnownNode files (meaning.PropertyMember p n i) → ⊥
  no_property_member p n i h = not_node (meaning.PropertyMember p n i) h.file h.place (λ p e. (cc)) (λ p i e. (cc)) h.is

  pub known_declaration : (p : DeclarationId) (f : File) (d : Declaration) → IsDeclarationAt files p f d → IsKnownNode files (meaning.Declared p)
  known_declaration p f d h = record { file = f; place = _; is = IsNode.declaration p f d h }

  pub known_member : (p : DeclarationId) (f : File) (l : ValuesLayout) (n : ℕ) (x : ValueMember) → IsValuesAt files p f l → slice_get (out-ValuesLayout l).members.items n ≡ Some x → IsKnownNode files (meaning.Member p n)
  known_member p f l n x h there = record { file = f; place = _; is = IsNode.member p f l n x h there }
