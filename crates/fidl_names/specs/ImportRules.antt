-- What is asked of the imports of a file (docs/language.md, "Imports").
use Rattle.std.specs.Prelude.{ℕ, ◌≡◌, List, ◌∷◌, map, flat_map, take, Some, slice_get}
use Rattle.std.specs.List.{AllByRecursion}
use Rattle.fidl_span.specs.declared.words.Span.{Span}
use Rattle.fidl_tree.specs.declared.file.File.{File}
use Rattle.fidl_tree.specs.declared.file.Import.{Import}
use Rattle.fidl_named.specs.declared.place.Place.{Place}
use Rattle.fidl_named.specs.declared.fault.NameFault.{NameFault}
use Rattle.fidl_named.specs.declared.fault.NameFault.TheVariants.{UnknownLibrary, BadImport, Memory}
use Rattle.fidl_named.specs.Names.{path_text, library_of, IsOneOf}
use Rattle.fidl_named.specs.Imports.{path_span, import_names, IsEntry}

-- the names alone that imports take
abbrev pub taken_names : List ℕ → List Import → List (List ℕ)
taken_names src is = map (λ n. n.0) (flat_map (import_names src) is)

-- the libraries that files belong to
abbrev pub libraries_of : List File → List (List ℕ)
libraries_of = map library_of

-- a file's import of a library that is none of these, and its place
pub record ImportsNothing (libraries : List (List ℕ)) (f : File) (number : ℕ) (place : Place)
    : Type 0 where
  pub index : ℕ
  pub an_import : Import
  pub stands : slice_get f.imports.items index ≡ Some an_import
  pub unknown : IsOneOf libraries (path_text f.src.now an_import.path) → ⊥
  pub place_is : place ≡ record { file = number; span = path_span an_import.path }

-- a name of an import that is one of these, and its place
pub record TakesName (taken : List (List ℕ)) (src : List ℕ) (i : Import) (number : ℕ)
    (place : Place) : Type 0 where
  pub name : List ℕ
  pub span : Span
  pub its : IsEntry (import_names src i) name span
  pub is_taken : IsOneOf taken name
  pub place_is : place ≡ record { file = number; span = span }

-- a file's import of which the own library has a name, or an import before it, and the place of
-- that name
pub record RepeatsImport (f : File) (number : ℕ) (place : Place) : Type 0 where
  pub index : ℕ
  pub an_import : Import
  pub stands : slice_get f.imports.items index ≡ Some an_import
  pub repeats : TakesName (library_of f ∷ taken_names f.src.now (take index f.imports.items))
      f.src.now an_import number place

-- every import of a file names one of these libraries
abbrev pub ImportsAreKnown : List (List ℕ) → File → Type 0
ImportsAreKnown libraries f =
    AllByRecursion (λ i. IsOneOf libraries (path_text f.src.now i.path)) f.imports.items

-- what the refusal of a file's imports says
abbrev pub IsTrueOfImports : List (List ℕ) → File → (number : ℕ) → NameFault → Type 0
IsTrueOfImports libraries f number (UnknownLibrary place) = ImportsNothing libraries f number place
IsTrueOfImports libraries f number (BadImport place) = RepeatsImport f number place
IsTrueOfImports libraries f number Memory = Unit {0}
IsTrueOfImports libraries f number fault = ⊥

-- the same of one import, where these names are taken
abbrev pub IsTrueOfImport : (libraries taken : List (List ℕ)) (src : List ℕ) (i : Import)
    (number : ℕ) → NameFault → Type 0
IsTrueOfImport libraries taken src i number (UnknownLibrary place) =
    (IsOneOf libraries (path_text src i.path) → ⊥)
    × (place ≡ record { file = number; span = path_span i.path })
IsTrueOfImport libraries taken src i number (BadImport place) = TakesName taken src i number place
IsTrueOfImport libraries taken src i number Memory = Unit {0}
IsTrueOfImport libraries taken src i number fault = ⊥
