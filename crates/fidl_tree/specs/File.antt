-- A source file as a tree (docs/language.md, "Grammar"): its yield, and which trees are proper.
use Rattle.std.specs.Prelude.{List, ◌++◌, map, codes}
use Rattle.std.specs.List.{AllByRecursion}
use Rattle.fidl_span.specs.declared.words.Word.{Word}
use Rattle.fidl_span.specs.declared.words.WordKind.TheVariants as kind
use Rattle.fidl_tree.specs.Leaf.{Leaf, words, symbol, name, keyword, optional, joined, MeetsText}
use Rattle.fidl_tree.specs.Path.{path_leaves}
use Rattle.fidl_tree.specs.Attribute.{attributes_leaves}
use Rattle.fidl_tree.specs.Declaration.{declaration_leaves}
use Rattle.fidl_tree.specs.declared.file.File.{File}
use Rattle.fidl_tree.specs.declared.file.Library.{Library}
use Rattle.fidl_tree.specs.declared.file.Import.{Import}
use Rattle.fidl_tree.specs.declared.file.ImportAlias.{ImportAlias}

-- library = attributes "library" path ";"
abbrev pub library_leaves : Library → List Leaf
library_leaves l =
    attributes_leaves l.attributes.items ++ keyword (codes "library") l.keyword
    ++ path_leaves l.path
    ++ symbol kind.Semicolon l.semicolon

-- import_alias = "as" ident
abbrev pub import_alias_leaves : ImportAlias → List Leaf
import_alias_leaves a = keyword (codes "as") a.keyword ++ name a.name

-- import = attributes "using" path [import_alias] ";"
abbrev pub import_leaves : Import → List Leaf
import_leaves i =
    attributes_leaves i.attributes.items ++ keyword (codes "using") i.keyword ++ path_leaves i.path
    ++ optional import_alias_leaves i.alias ++ symbol kind.Semicolon i.semicolon

-- file = library { import } { declaration }
abbrev pub file_leaves : File → List Leaf
file_leaves f =
    library_leaves f.library ++ joined (map import_leaves f.imports.items)
    ++ joined (map declaration_leaves f.declarations.items)

-- The words of a tree, in order.
abbrev pub yield_of : File → List Word
yield_of f = words (file_leaves f)

-- A tree is proper where each of its words has the text that the grammar asks for.
abbrev pub IsProper : File → Type 0
IsProper f = AllByRecursion (MeetsText f.src.now) (file_leaves f)
