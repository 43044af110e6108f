-- The declaration of an id is one.
use Rattle.std.proofs.Common.{◌≡◌, ℕ, List, ap, sym, ◌∙◌}
use Rattle.std.specs.Prelude.{slice_get}
use Rattle.std.proofs.lemmas.Option.{same_Some}
use Rattle.fidl_tree.specs.declared.file.File.{File}
use Rattle.fidl_tree.specs.declared.declaration.Declaration.{Declaration}
use Rattle.fidl_tree.specs.declared.declaration.Property.{Property}
use Rattle.fidl_tree.specs.declared.declaration.ResourceDefinition.{ResourceDefinition}
use Rattle.fidl_tree.specs.declared.declaration.DeclarationBody.TheVariants.{Resource}
use Rattle.fidl_tree.specs.declared.type_constructor.ValuesLayout.{ValuesLayout}
use Rattle.fidl_named.specs.declared.place.DeclarationId.{DeclarationId}
use Rattle.fidl_named.specs.Constraints.{IsDeclarationAt}
use Rattle.fidl_consts.specs.Types.{declared_values, written_values, IsValuesAt, IsPropertyValues}

module _ (files : List File) (p : DeclarationId) (f g : File) where
  pub one_file : (d e : Declaration) → IsDeclarationAt files p f d → IsDeclarationAt files p g e → f ≡ g
  one_file d e h k = same_Some f g (sym h.file_at ∙ k.file_at)

  pub one_declaration : (d e : Declaration) → IsDeclarationAt files p f d → IsDeclarationAt files p g e → d ≡ e
  one_declaration d e h k = same_Some d e (sym h.stands ∙ ap (λ (x : File). slice_get x.declarations.items p.index) (one_file d e h k) ∙ k.stands)

  pub one_layout : (l m : ValuesLayout) → IsValuesAt files p f l → IsValuesAt files p g m → l ≡ m
  one_layout l m h k = same_Some l m (sym h.is ∙ ap (λ (d : Declaration). declared_values d.body) (one_declaration h.declaration k.declaration h.at k.at) ∙ k.is)

  pub one_property_layout : (n : ℕ) (l m : ValuesLayout) → IsPropertyValues files p n f l → IsPropertyValues files p n g m → l ≡ m
  one_property_layout n l m h k =
      let bodies : Resource h.definition ≡ Resource k.definition = sym h.body ∙ ap (λ (d : Declaration). d.body) (one_declaration h.declaration k.declaration h.at k.at) ∙ k.body in
      let definition : h.definition ≡ k.definition = cc in
      let property = same_Some h.property k.property (sym h.property_at ∙ ap (λ (r : ResourceDefinition). slice_get r.properties.members.items n) definition ∙ k.property_at) in
      same_Some l m (sym h.is ∙ ap (λ (x : Property). written_values x.constructor) property ∙ k.is)
