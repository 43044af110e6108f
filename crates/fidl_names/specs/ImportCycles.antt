-- Libraries that import one another, and their numbers (docs/language.md, "Imports").
use Rattle.std.specs.Prelude.{ℕ, ◌≡◌, List, Some, slice_get}
use Rattle.std.specs.List.{Contains, Any}
use Rattle.fidl_span.specs.declared.words.Span.{Span}
use Rattle.fidl_tree.specs.declared.file.File.{File}
use Rattle.fidl_tree.specs.declared.file.Import.{Import}
use Rattle.fidl_named.specs.declared.place.Place.{Place}
use Rattle.fidl_named.specs.declared.fault.NameFault.{NameFault}
use Rattle.fidl_named.specs.declared.fault.NameFault.TheVariants.{ImportCycle, Memory}
use Rattle.fidl_named.specs.Names.{path_text, library_of, AreDistinct}
use Rattle.fidl_named.specs.NameMaps.{names_of}
use Rattle.fidl_named.specs.Imports.{path_span, IsEntry}
use Rattle.fidl_cycles.specs.Cycles.{Leads}

-- a library imports another: a file of it does
pub record Imports (files : List File) (library other : List ℕ) : Type 0 where
  pub file : File
  pub an_import : Import
  pub among : Contains files file
  pub belongs : library_of file ≡ library
  pub stands : Contains file.imports.items an_import
  pub imports : path_text file.src.now an_import.path ≡ other

-- an import of a library that leads back to the import's own, and its place
pub record ImportsBack (files : List File) (place : Place) : Type 0 where
  pub file : File
  pub an_import : Import
  pub file_at : slice_get files place.file ≡ Some file
  pub stands : Contains file.imports.items an_import
  pub back : Leads (Imports files) (path_text file.src.now an_import.path) (library_of file)
  pub span_is : place.span ≡ path_span an_import.path

-- what a refusal says: an import that leads back; nothing where memory ran out
abbrev pub IsTrueOfImportCycle : List File → NameFault → Type 0
IsTrueOfImportCycle files (ImportCycle place) = ImportsBack files place
IsTrueOfImportCycle files Memory = Unit {0}
IsTrueOfImportCycle files fault = ⊥

-- names that differ, each with how many stand before it
pub record AreNumbered (entries : List (List ℕ × ℕ)) : Type 0 where
  pub names : AreDistinct (names_of entries)
  pub places : (name : List ℕ) (number : ℕ) → IsEntry entries name number
      → slice_get entries number ≡ Some (name, number)

-- the file is of the library of one number, and one of these imports names that of the other
pub record HasEdge (entries : List (List ℕ × ℕ)) (f : File) (imports : List Import) (one other : ℕ)
    : Type 0 where
  pub from : IsEntry entries (library_of f) one
  pub to : Any (λ i. IsEntry entries (path_text f.src.now i.path) other) imports

-- the same of an import that stands at this span
pub record HasEdgeAt (entries : List (List ℕ × ℕ)) (f : File) (one other : ℕ) (span : Span)
    : Type 0 where
  pub an_import : Import
  pub stands : Contains f.imports.items an_import
  pub from : IsEntry entries (library_of f) one
  pub to : IsEntry entries (path_text f.src.now an_import.path) other
  pub span_is : span ≡ path_span an_import.path

-- the same in a set of files, at this place
pub record IsImportAt (entries : List (List ℕ × ℕ)) (files : List File) (one other : ℕ)
    (place : Place) : Type 0 where
  pub file : File
  pub file_at : slice_get files place.file ≡ Some file
  pub edge : HasEdgeAt entries file one other place.span
