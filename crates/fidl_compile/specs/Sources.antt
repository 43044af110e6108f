-- When sources are accepted, and what their table is (docs/language.md, "Compiling").
use Rattle.std.specs.Prelude.{ℕ, ◌≡◌, List}
use Rattle.std.specs.List.{AllZip}
use Rattle.fidl_span.specs.Words.{Words}
use Rattle.fidl_tree.specs.Brackets.{IsWithinLimit}
use Rattle.fidl_tree.specs.File.{yield_of, IsProper}
use Rattle.fidl_tree.specs.declared.file.File.{File}
use Rattle.fidl_named.specs.Names.{all_declared, AreDistinct}
use Rattle.fidl_names.specs.Resolved.{Resolves}
use Rattle.fidl_consts.specs.Evaluated.{Evaluates}
use Rattle.fidl_wire.specs.Figure.{Declarations}
use Rattle.fidl_protocol.specs.Checked.{AreChecked}
use Rattle.fidl_table.specs.Shows.{Shows}

-- a source reads as a tree: the tree is a proper one of this source, its words are the words of the
-- source, and no more brackets are open at once than may be
pub record ReadsAs (src : List ℕ) (tree : File) : Type 0 where
  pub source : tree.src.now ≡ src
  pub words : Words src (yield_of tree)
  pub proper : IsProper tree
  pub limit : IsWithinLimit (yield_of tree)

-- sources read as files, one by one
abbrev pub ReadAs : (sources : List (List ℕ)) → (files : List File) → Type 0
ReadAs sources files = AllZip ReadsAs sources files

-- files keep all rules of the language, and their definitions have these figures
pub record AreAccepted (files : List File) (ds : Declarations) : Type 0 where
  pub declared : AreDistinct (all_declared files)
  pub resolved : Resolves files
  pub evaluated : Evaluates files
  pub checked : AreChecked files ds

-- a table is that of sources: these read as files that keep all rules of the language, and the
-- table shows the library of these files
pub record IsTableOf (sources : List (List ℕ)) (table : List ℕ) : Type 0 where
  pub files : List File
  pub declarations : Declarations
  pub read : ReadAs sources files
  pub accepted : AreAccepted files declarations
  pub shows : Shows files table
