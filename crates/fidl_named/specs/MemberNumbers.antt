-- What a set keeps of its lists of members: the number of each name, so that no look-up goes over a
-- list.
use Rattle.std.specs.Prelude.{ℕ, ◌≡◌, ◌↔◌, List, [], ◌∷◌, Some}
use Rattle.fidl_tree.specs.declared.file.File.{File}
use Rattle.fidl_tree.specs.declared.declaration.Declaration.{Declaration}
use Rattle.fidl_tree.specs.declared.declaration.Property.{Property}
use Rattle.fidl_tree.specs.declared.declaration.DeclarationBody.{DeclarationBody}
use Rattle.fidl_tree.specs.declared.declaration.DeclarationBody.TheVariants.{Resource}
use Rattle.fidl_named.specs.declared.member_numbers.MemberNumbers.{MemberNumbers}
use Rattle.fidl_named.specs.Imports.{IsEntry}
use Rattle.fidl_named.specs.Constraints.{number_in, property_names, texts_of, declared_members}
use Rattle.fidl_named.specs.Constraints.{written_members}
use Rattle.fidl_named.specs.NameMaps.{seen}

-- the entries give the number of each name in a list, of the first where several are the same
abbrev pub AreNumbers : List (List ℕ) → List (List ℕ × ℕ) → Type 0
AreNumbers names entries = (n : List ℕ) (i : ℕ) → IsEntry entries n i ↔ (number_in names n ≡ Some i)

-- two lists match item by item
abbrev pub Match : {X Y : Type 0} → (X → Y → Type 0) → List X → List Y → Type 0
Match R [] [] = Unit {0}
Match R (x ∷ xs) (y ∷ ys) = R x y × Match R xs ys
Match R [] (y ∷ ys) = ⊥
Match R (x ∷ xs) [] = ⊥

-- the properties of a resource definition; any other declaration has none
abbrev pub own_properties : DeclarationBody → List Property
own_properties (Resource d) = d.properties.members.items
own_properties _ = []

-- the names of the members with which a property's type is written
abbrev pub written_names : File → Property → List (List ℕ)
written_names f p = texts_of f (written_members p.constructor)

-- the numbers are those of a declaration's lists
pub record AreNumbersOf (f : File) (d : Declaration) (numbers : MemberNumbers) : Type 0 where
  pub members : AreNumbers (texts_of f (declared_members d.body)) (seen numbers.members.entries)
  pub properties : AreNumbers (property_names f (own_properties d.body))
      (seen numbers.properties.entries)
  pub written : Match (λ p m. AreNumbers (written_names f p) (seen m.entries))
      (own_properties d.body) numbers.written.items

-- and of those of each declaration of a file
abbrev pub AreNumbersIn : File → List MemberNumbers → Type 0
AreNumbersIn f numbers = Match (AreNumbersOf f) f.declarations.items numbers
