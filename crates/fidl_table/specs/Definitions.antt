-- Entries of definitions (docs/table.md, "What is written").
use Rattle.std.specs.Prelude.{ℕ, ◌≡◌, List, Some, map, slice_get}
use Rattle.fidl_tree.specs.declared.file.File.{File}
use Rattle.fidl_declarations.specs.Forms.{Form}
use Rattle.fidl_lower_types.specs.Numbers.{all_forms}
use Rattle.fidl_wire.specs.Value.{Value}
use Rattle.fidl_wire.specs.Term as ty
use Rattle.fidl_wire.specs.Figure.{Declarations}
use Rattle.fidl_equivalence.specs.Alike.{IsOne}
use Rattle.fidl_table_format.specs.Terms.{declarations_of}
use Rattle.fidl_table_check.specs.Numbered.{entry_name}

-- the full names of the definitions of files, by their numbers
abbrev pub definition_names : List File → List (List ℕ)
definition_names files = map (λ (form : Form). form.name) (all_forms files)

-- the entry of this number is that of a definition: it has the definition's full name, and each
-- value has for it the same typing, encoding, depth and text
pub record ShowsDefinition (files : List File) (ds : Declarations) (bytes : List ℕ)
    (definition entry : ℕ) : Type 0 where
  pub name : slice_get (definition_names files) definition ≡ Some (entry_name bytes entry)
  pub same : (v : Value)
      → IsOne ds (declarations_of bytes) (ty.named definition) (ty.named entry) v
