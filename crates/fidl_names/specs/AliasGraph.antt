-- Aliases as a graph: which refer to which, by the numbers of declarations.
use Rattle.std.specs.Prelude.{ℕ, ◌≡◌, ◌<◌, ◌↔◌, List, Option, Some, length, take, slice_get}
use Rattle.std.specs.List.{Contains}
use Rattle.fidl_tree.specs.Syntax.{Path}
use Rattle.fidl_tree.specs.declared.file.File.{File}
use Rattle.fidl_named.specs.declared.place.DeclarationId.{DeclarationId}
use Rattle.fidl_named.specs.declared.meaning.Wanted.TheVariants as wanted
use Rattle.fidl_named.specs.declared.meaning.Meaning.TheVariants as meaning
use Rattle.fidl_named.specs.Meanings.{Means}
use Rattle.fidl_named.specs.Paths.{texts}
use Rattle.fidl_named.specs.Aliases.{Wants, IsArrayName}
use Rattle.fidl_names.specs.AliasCycles.{Refers}
use Rattle.fidl_named.specs.FullNames.{HasDeclaration}
use Rattle.fidl_names.specs.DeclarationNumbers.{number_of}

-- a type's name, where a type is wanted, means the declaration of this id
pub record IsMeant (files : List File) (f : File) (argument_of : Option Path) (path : Path)
    (p : DeclarationId) : Type 0 where
  pub wants : Wants (IsArrayName files f) argument_of wanted.«Type»
  pub means : Means files f wanted.«Type» (texts f.src.now path) (meaning.Declared p)

-- the number of a declaration that one of these types means
pub record IsTarget (files : List File) (f : File) (starts : List ℕ)
    (types : List (Option Path × Path)) (target : ℕ) : Type 0 where
  pub argument_of : Option Path
  pub path : Path
  pub id : DeclarationId
  pub among : Contains types (argument_of, path)
  pub meant : IsMeant files f argument_of path id
  pub number_is : target ≡ number_of starts id

-- the numbers of all declarations that these types mean
abbrev pub AreTargets : List File → File → (starts : List ℕ) → List (Option Path × Path)
    → (targets : List ℕ) → Type 0
AreTargets files f starts types targets =
    (target : ℕ) → Contains targets target ↔ IsTarget files f starts types target

-- the number of a declaration that an alias refers to
pub record IsReferred (files : List File) (starts : List ℕ) (p : DeclarationId) (target : ℕ)
    : Type 0 where
  pub other : DeclarationId
  pub refers : Refers files p other
  pub number_is : target ≡ number_of starts other

-- the numbers of all declarations that an alias refers to
abbrev pub AreReferred : List File → (starts : List ℕ) → DeclarationId → (targets : List ℕ) → Type 0
AreReferred files starts p targets =
    (target : ℕ) → Contains targets target ↔ IsReferred files starts p target

-- these rows are they, for each declaration at its number
pub record AreRows (files : List File) (starts : List ℕ) (ids : List DeclarationId)
    (rows : List (List ℕ)) : Type 0 where
  pub long : length rows ≡ length ids
  pub each : (n : ℕ) (p : DeclarationId) (row : List ℕ) → slice_get ids n ≡ Some p
      → slice_get rows n ≡ Some row → AreReferred files starts p row

-- the number of every declaration stands in the order, that of an alias after those of all that it
-- refers to
pub record IsAliasOrder (files : List File) (starts : List ℕ) (ids : List DeclarationId)
    (order : List ℕ) : Type 0 where
  pub whole : (p : DeclarationId) → HasDeclaration files p → Contains order (number_of starts p)
  pub after : (k n : ℕ) (p q : DeclarationId) → slice_get order k ≡ Some n
      → slice_get ids n ≡ Some p → Refers files p q → Contains (take k order) (number_of starts q)
  pub points : (n : ℕ) → Contains order n → n < length ids
