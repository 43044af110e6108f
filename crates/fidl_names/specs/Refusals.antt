-- What refusals say of the sources (docs/language.md, "Faults of names").
use Rattle.std.specs.Prelude.{ℕ, ◌≡◌, List, ◌++◌, take, Some, slice_get}
use Rattle.fidl_tree.specs.declared.file.File.{File}
use Rattle.fidl_tree.specs.declared.declaration.Declaration.{Declaration}
use Rattle.fidl_named.specs.declared.place.Place.{Place}
use Rattle.fidl_named.specs.declared.fault.NameFault.{NameFault}
use Rattle.fidl_named.specs.declared.fault.NameFault.TheVariants.{DuplicateName, Memory}
use Rattle.fidl_named.specs.Names.{full_name, declared, place_in, IsOneOf}

-- a declaration of the file of this number, whose full name is one of these or was declared before
-- it in the file, and its place
pub record Repeats (before : List (List ℕ)) (f : File) (number : ℕ) (place : Place) : Type 0 where
  pub index : ℕ
  pub declaration : Declaration
  pub stands : slice_get f.declarations.items index ≡ Some declaration
  pub earlier : IsOneOf (before ++ take index (declared f)) (full_name f declaration)
  pub place_is : place ≡ place_in number declaration

-- what the refusal of a file says, where these full names are declared already: nothing where
-- memory ran out
abbrev pub IsTrueOfAdding : List (List ℕ) → File → (number : ℕ) → NameFault → Type 0
IsTrueOfAdding before f number (DuplicateName place) = Repeats before f number place
IsTrueOfAdding before f number Memory = Unit {0}
IsTrueOfAdding before f number fault = ⊥

-- what a refusal says is true of one of the files
pub record IsTrueOfOne (files : List File) (Says : File → ℕ → NameFault → Type 0)
    (fault : NameFault) : Type 0 where
  pub file_index : ℕ
  pub file : File
  pub file_at : slice_get files file_index ≡ Some file
  pub says : Says file file_index fault
