-- A name among the members that a property's type has means one of them.
use Rattle.std.proofs.Common.{◌≡◌, ℕ, List, [], ◌∷◌, Some, None, Option, ap, sym, subst, refl, ◌∙◌}
use Rattle.std.specs.Prelude.{slice_get}
use Rattle.fidl_tree.specs.Syntax as plain
use Rattle.fidl_tree.specs.declared.path.Path.{Path}
use Rattle.fidl_tree.specs.declared.file.File.{File}
use Rattle.fidl_tree.specs.declared.declaration.Declaration.{Declaration}
use Rattle.fidl_tree.specs.declared.declaration.Property.{Property}
use Rattle.fidl_tree.specs.declared.declaration.ResourceDefinition.{ResourceDefinition}
use Rattle.fidl_tree.specs.declared.declaration.DeclarationBody.TheVariants.{Resource}
use Rattle.fidl_named.specs.declared.place.DeclarationId.{DeclarationId}
use Rattle.fidl_named.specs.declared.meaning.Wanted.TheVariants as wanted
use Rattle.fidl_named.specs.declared.meaning.Meaning.{Meaning}
use Rattle.fidl_named.specs.declared.meaning.Meaning.TheVariants as meaning
use Rattle.fidl_tree.specs.declared.type_constructor.TypeConstructor.{TypeConstructor}
use Rattle.fidl_named.specs.Meanings.{components, Means, IsJust}
use Rattle.fidl_named.specs.Paths.{texts}
use Rattle.fidl_named.specs.Aliases.{ResolvesTo, type_path}
use Rattle.fidl_named.specs.Constraints.{IsDeclarationAt, IsDeclaredMember, IsPropertyMember, written, declared, written_members, IsPropertyFor, IsOfProperty, number_in, texts_of, declared_members, property_names}
use Rattle.fidl_named.proofs.ResolvedMeanings.{one_resolved}

-- one id is that of one declaration, of one file
module _ (fs : List File) (p : DeclarationId) (f g : File) (d e : Declaration) (one : IsDeclarationAt fs p f d) (other : IsDeclarationAt fs p g e) where
  pub file_same : f ≡ g
  file_same =
      let it : Some f ≡ Some g = sym one.file_at ∙ other.file_at in
      cc

  pub declaration_same : d ≡ e
  declaration_same =
      let it : Some d ≡ Some e = sym (subst (λ (h : File). slice_get h.declarations.items p.index ≡ Some d) file_same one.stands) ∙ other.stands in
      cc

-- a name that means this, and what it resolves to
module _ (fs : List File) (f : File) (q : Path) (n : List ℕ) (a end : Meaning) (means : Means fs f wanted.«Type» (components f.src.now q) a) (resolved : ResolvesTo fs a end) (m : Meaning) (h : IsDeclaredMember fs f q n m) where
  pub end_is : end ≡ meaning.Declared h.id
  end_is =
      let first : h.first ≡ a = means.1 h.first h.means.0 in
      one_resolved fs a end (meaning.Declared h.id) resolved (subst (λ x. ResolvesTo fs x (meaning.Declared h.id)) first h.resolved)

  module _ (p : DeclarationId) (is : end ≡ meaning.Declared p) where
    pub id_is : h.id ≡ p
    id_is =
        let both : meaning.Declared h.id ≡ meaning.Declared p = sym end_is ∙ is in
        cc

    pub stands_there : IsDeclarationAt fs p h.file h.declaration
    stands_there = subst (λ x. IsDeclarationAt fs x h.file h.declaration) id_is h.stands

    pub number_there : (g : File) (d : Declaration) → IsDeclarationAt fs p g d → number_in (texts_of g (declared_members d.body)) n ≡ Some h.number
    number_there g d at =
        subst (λ (x : File). number_in (texts_of x (declared_members d.body)) n ≡ Some h.number) (file_same fs p h.file g h.declaration d stands_there at)
        (subst (λ (x : Declaration). number_in (texts_of h.file (declared_members x.body)) n ≡ Some h.number) (declaration_same fs p h.file g h.declaration d stands_there at) h.number_is)

    pub is_this : (g : File) (d : Declaration) (i : ℕ) → IsDeclarationAt fs p g d → number_in (texts_of g (declared_members d.body)) n ≡ Some i → m ≡ meaning.Member p i
    is_this g d i at number =
        let both : Some h.number ≡ Some i = sym (number_there g d at) ∙ number in
        let same : h.number ≡ i = cc in
        h.is ∙ ap (λ x. meaning.Member x h.number) id_is ∙ ap (λ x. meaning.Member p x) same

-- the property that a constraint is for is one
module _ (fs : List File) (end : Option Meaning) (rank : ℕ) (p q : DeclarationId) (f g : File) (i j : ℕ) (m n : Property) (one : IsPropertyFor fs end rank p f i m) (other : IsPropertyFor fs end rank q g j n) where
  pub property_id : q ≡ p
  property_id =
      let both : Some (meaning.Declared q) ≡ Some (meaning.Declared p) = sym other.end_is ∙ one.end_is in
      cc

  there : IsDeclarationAt fs p g other.declaration
  there = subst (λ x. IsDeclarationAt fs x g other.declaration) property_id other.at

  pub property_file : g ≡ f
  property_file = file_same fs p g f other.declaration one.declaration there one.at

  same_definition : other.definition ≡ one.definition
  same_definition =
      let both : Resource other.definition ≡ Resource one.definition =
      sym other.body ∙ ap (λ (d : Declaration). d.body) (declaration_same fs p g f other.declaration one.declaration there one.at) ∙ one.body in
      cc

  same_name : other.name ≡ one.name
  same_name =
      let both : Some other.name ≡ Some one.name = sym other.is_for ∙ one.is_for in
      cc

  pub property_number : j ≡ i
  property_number =
      let both : Some j ≡ Some i =
      sym other.number_is ∙ ap (λ (x : File). number_in (property_names x other.definition.properties.members.items) other.name) property_file
      ∙ ap (λ (x : ResourceDefinition). number_in (property_names f x.properties.members.items) other.name) same_definition
      ∙ ap (number_in (property_names f one.definition.properties.members.items)) same_name ∙ one.number_is in
      cc

  pub property_same : n ≡ m
  property_same =
      let both : Some n ≡ Some m =
      sym other.member_at ∙ ap (λ (x : ResourceDefinition). slice_get x.properties.members.items j) same_definition
      ∙ ap (slice_get one.definition.properties.members.items) property_number ∙ one.member_at in
      cc

-- a member of a property's type: of what a name resolves to, or of what is written there
module _ (fs : List File) (p : DeclarationId) (f : File) (property : ℕ) (t : TypeConstructor) (n : List ℕ) where
  module _ (q : Path) (path : type_path t ≡ Some q) where
    pub declared_as : (m : Meaning) → IsDeclaredMember fs f q n m → IsPropertyMember fs p f property t n m
    declared_as m h = declared q path h

    pub declared_back : written_members t ≡ [] → (m : Meaning) → IsPropertyMember fs p f property t n m → IsDeclaredMember fs f q n m
    declared_back none m (written i is e) =
        let both : None ≡ Some i = sym (ap (λ ms. number_in (texts_of f ms) n) none) ∙ is in
        absurd (cc)
    declared_back none m (declared r is h) =
        let both : Some r ≡ Some q = sym is ∙ path in
        let same : r ≡ q = cc in
        subst (λ x. IsDeclaredMember fs f x n m) same h

  module _ (path : type_path t ≡ None) where
    pub written_none : number_in (texts_of f (written_members t)) n ≡ None → (m : Meaning) → IsPropertyMember fs p f property t n m → ⊥
    written_none none m (written i is e) = let both : None ≡ Some i = sym none ∙ is in absurd (cc)
    written_none none m (declared q is h) = let both : None ≡ Some q = sym path ∙ is in absurd (cc)

    only_written : (i : ℕ) → number_in (texts_of f (written_members t)) n ≡ Some i → (m : Meaning) → IsPropertyMember fs p f property t n m → m ≡ meaning.PropertyMember p property i
    only_written i number m (written j is e) =
        let both : Some j ≡ Some i = sym is ∙ number in
        let same : j ≡ i = cc in
        e ∙ ap (meaning.PropertyMember p property) same
    only_written i number m (declared q is h) = let both : None ≡ Some q = sym path ∙ is in absurd (cc)

    pub written_as : (i : ℕ) → number_in (texts_of f (written_members t)) n ≡ Some i → IsJust (IsPropertyMember fs p f property t n) (Some (meaning.PropertyMember p property i))
    written_as i number = (written i number refl, only_written i number)

-- a constraint of one component names a member of the property that it is for
module _ (fs : List File) (f : File) (end : Option Meaning) (rank : ℕ) (path : plain.Path) (p : DeclarationId) (g : File) (number : ℕ) (property : Property) (name : List ℕ)
    (is_for : IsPropertyFor fs end rank p g number property) (one : texts f.src.now path ≡ name ∷ []) where
  pub of_member : (m : Meaning) → IsPropertyMember fs p g number property.constructor name m → IsOfProperty fs f end rank path m
  of_member m h = record { id = p; file = g; number = number; property = property; name = name; is_for = is_for; one_component = one; member = h }

  pub to_member : (m : Meaning) → IsOfProperty fs f end rank path m → IsPropertyMember fs p g number property.constructor name m
  to_member m h =
      let names : h.name ∷ [] ≡ name ∷ [] = sym h.one_component ∙ one in
      let same : h.name ≡ name = cc in
      subst (λ x. IsPropertyMember fs p g number property.constructor x m) same
      (subst (λ (x : Property). IsPropertyMember fs p g number x.constructor h.name m) (property_same fs end rank p h.id g h.file number h.number property h.property is_for h.is_for)
      (subst (λ x. IsPropertyMember fs p g x h.property.constructor h.name m) (property_number fs end rank p h.id g h.file number h.number property h.property is_for h.is_for)
      (subst (λ x. IsPropertyMember fs p x h.number h.property.constructor h.name m) (property_file fs end rank p h.id g h.file number h.number property h.property is_for h.is_for)
      (subst (λ x. IsPropertyMember fs x h.file h.number h.property.constructor h.name m) (property_id fs end rank p h.id g h.file number h.number property h.property is_for h.is_for) h.member))))
