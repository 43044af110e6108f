-- Which declaration has which full name (docs/language.md, "Names").
use Rattle.std.specs.Prelude.{◌≡◌, List, Some, slice_get, ℕ}
use Rattle.fidl_tree.specs.declared.file.File.{File}
use Rattle.fidl_tree.specs.declared.declaration.Declaration.{Declaration}
use Rattle.fidl_named.specs.declared.place.DeclarationId.{DeclarationId}
use Rattle.fidl_named.specs.Names.{full_name}

-- the declaration of this id in these files, in this file, has this full name
pub record IsDeclared (files : List File) (full : List ℕ) (p : DeclarationId) (f : File)
    (d : Declaration) : Type 0 where
  pub file_at : slice_get files p.file ≡ Some f
  pub stands : slice_get f.declarations.items p.index ≡ Some d
  pub name_is : full_name f d ≡ full

-- a declaration has this id
pub record HasDeclaration (files : List File) (p : DeclarationId) : Type 0 where
  pub file : File
  pub declaration : Declaration
  pub file_at : slice_get files p.file ≡ Some file
  pub stands : slice_get file.declarations.items p.index ≡ Some declaration
