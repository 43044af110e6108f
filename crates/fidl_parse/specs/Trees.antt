-- Which words have a tree (docs/language.md, "Parsing").
use Rattle.std.specs.Prelude.{◌≡◌, ℕ, List}
use Rattle.fidl_span.specs.declared.words.Word.{Word}
use Rattle.fidl_tree.specs.Brackets.{IsWithinLimit}
use Rattle.fidl_tree.specs.File.{yield_of, IsProper}
use Rattle.fidl_tree.specs.declared.file.File.{File}

-- these are the words of a proper tree of the source, and no more brackets are open than may be
abbrev pub HasTree : List Word → List ℕ → Type 0
HasTree ws src = (tree : File) × (tree.src.now ≡ src) × IsProper tree × (yield_of tree ≡ ws)
    × IsWithinLimit ws
