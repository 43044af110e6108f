use Rattle.std.proofs.Common.{◌≡◌, length, ◌-◌, List, [], ◌++◌, map}
use Rattle.fidl_tree.specs.Leaf.{Leaf, joined}
use Rattle.fidl_tree.specs.File.{file_leaves, library_leaves, import_leaves}
use Rattle.fidl_tree.specs.Declaration.{declaration_leaves}
use Rattle.fidl_tree.specs.declared.file.File.{File}
use Rattle.fidl_tree.specs.declared.file.Import.{Import}
use Rattle.fidl_tree.specs.declared.declaration.Declaration.{Declaration}
use Rattle.fidl_parse.specs.Reading.{Reads}
use Rattle.fidl_parse.specs.Completeness.{Ahead, row}
use Rattle.fidl_parse.proofs.parser.Parser.file.Given as goal

-- from the start to here the library's declaration, the imports and the declarations so far are read, and from here what is
-- left of any file: no imports where a declaration was read
abbrev pub invariant-loop-at : goal.invariant-loop-at
invariant-loop-at l = record {
  reads : Reads l.self l.fn.at l.at (library_leaves l.library ++ joined (map import_leaves l.imports.items) ++ joined (map declaration_leaves l.declarations.items));
  left : (x : File) → (rest : List Leaf) → rest ≡ [] → Ahead l.self l.fn.at (file_leaves x ++ rest)
      → (is : List Import) × (ds : List Declaration) × Ahead l.self l.at (row import_leaves is ++ row declaration_leaves ds) × ((length l.declarations.items ≡ 0 → ⊥) → is ≡ []);
}

abbrev pub decreases-loop-at : goal.decreases-loop-at
decreases-loop-at l = length l.self.words.now - l.at
