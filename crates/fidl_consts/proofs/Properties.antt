-- The property that a constraint is for is what stands at its place.
use Rattle.std.proofs.Common.{◌≡◌, ℕ, List, Some, Option, ap, sym, subst, ◌∙◌}
use Rattle.std.specs.Prelude.{slice_get}
use Rattle.fidl_tree.specs.declared.file.File.{File}
use Rattle.fidl_tree.specs.declared.declaration.Declaration.{Declaration}
use Rattle.fidl_tree.specs.declared.declaration.Property.{Property}
use Rattle.fidl_tree.specs.declared.declaration.ResourceDefinition.{ResourceDefinition}
use Rattle.fidl_tree.specs.declared.declaration.DeclarationBody.TheVariants.{Resource}
use Rattle.fidl_named.specs.declared.place.DeclarationId.{DeclarationId}
use Rattle.fidl_named.specs.declared.meaning.Meaning.{Meaning}
use Rattle.fidl_named.specs.Constraints.{IsDeclarationAt, IsPropertyAt, IsPropertyFor, number_in, property_names}
use Rattle.fidl_consts.proofs.Standing.{one_file, one_declaration}

module _ (fs : List File) (p : DeclarationId) (f : File) (d : Declaration) (definition : ResourceDefinition) (end : Option Meaning) (rank i : ℕ) (at : IsDeclarationAt fs p f d) (body : d.body ≡ Resource definition) (h : IsPropertyAt fs end rank p i) where
  same_file : h.file ≡ f
  same_file = one_file fs p h.file f h.is_for.declaration d h.is_for.at at

  same_definition : h.is_for.definition ≡ definition
  same_definition =
      let both : Resource h.is_for.definition ≡ Resource definition = sym h.is_for.body ∙ ap (λ (x : Declaration). x.body) (one_declaration fs p h.file f h.is_for.declaration d h.is_for.at at) ∙ body in
      cc

  pub property_there : slice_get definition.properties.members.items i ≡ Some h.member
  property_there = subst (λ (x : ResourceDefinition). slice_get x.properties.members.items i ≡ Some h.member) same_definition h.is_for.member_at

  pub property_is : (m : Property) → slice_get definition.properties.members.items i ≡ Some m → IsPropertyFor fs end rank p f i m
  property_is m there = record {
    declaration = d;
    definition = definition;
    name = h.is_for.name;
    end_is = h.is_for.end_is;
    at = at;
    body = body;
    is_for = h.is_for.is_for;
    number_is = subst (λ (x : File). number_in (property_names x definition.properties.members.items) h.is_for.name ≡ Some i) same_file
        (subst (λ (x : ResourceDefinition). number_in (property_names h.file x.properties.members.items) h.is_for.name ≡ Some i) same_definition h.is_for.number_is);
    member_at = there;
  }
