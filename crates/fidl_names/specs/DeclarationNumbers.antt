-- Declarations by their numbers, in the order of the sources.
use Rattle.std.specs.Prelude.{ℕ, zero, suc, ◌≡◌, ◌≤◌, ◌+◌, ◌∷◌, [], ◌++◌, List, Some, length}
use Rattle.std.specs.Prelude.{get_or, slice_get}
use Rattle.fidl_tree.specs.declared.file.File.{File}
use Rattle.fidl_named.specs.declared.place.DeclarationId.{DeclarationId}
use Rattle.fidl_named.specs.FullNames.{HasDeclaration}

-- the ids of the first declarations of a file, as many as these
abbrev pub ids_in : (file count : ℕ) → List DeclarationId
ids_in file zero = []
ids_in file (suc count) = ids_in file count ++ record { file = file; index = count } ∷ []

-- the number of the declaration of an id, where these are those of the files' first ones
abbrev pub number_of : List ℕ → DeclarationId → ℕ
number_of starts p = get_or starts p.file 0 + p.index

-- the ids of all declarations, each at its number
pub record AreNumbered (files : List File) (ids : List DeclarationId) (starts : List ℕ)
    : Type 0 where
  pub long : length files ≤ length starts
  pub declared : (n : ℕ) (p : DeclarationId) → slice_get ids n ≡ Some p → HasDeclaration files p
  pub numbered : (p : DeclarationId) → HasDeclaration files p
      → slice_get ids (number_of starts p) ≡ Some p
