-- The roots of a written table (docs/table.md, "What is written").
use Rattle.std.specs.Prelude.{ℕ, ◌≡◌, ◌<◌, List, Some, slice_get}
use Rattle.fidl_tree.specs.declared.file.File.{File}
use Rattle.fidl_wire.specs.Figure.{Declarations}
use Rattle.fidl_layout.specs.Roots.{RootAt}
use Rattle.fidl_table_format.specs.Section.{header_of, root_at}
use Rattle.fidl_table_format.specs.Root.{root_name}
use Rattle.fidl_table.specs.Definitions.{definition_names, ShowsDefinition}

-- the root of this number is a declared type: it has the type's full name, and its entry
pub record IsRootOf (files : List File) (ds : Declarations) (bytes : List ℕ) (definition root : ℕ)
    : Type 0 where
  pub declared : RootAt files definition
  pub name : slice_get (definition_names files) definition
      ≡ Some (root_name bytes (header_of bytes) root)
  pub entry : ShowsDefinition files ds bytes definition (root_at bytes (header_of bytes) root).entry

-- the roots are just the declared types
pub record ShowsRoots (files : List File) (ds : Declarations) (bytes : List ℕ) : Type 0 where
  pub sound : (root : ℕ) → root < (header_of bytes).roots
      → (definition : ℕ) × IsRootOf files ds bytes definition root
  pub complete : (definition : ℕ) → RootAt files definition
      → (root : ℕ) × (root < (header_of bytes).roots) × IsRootOf files ds bytes definition root
