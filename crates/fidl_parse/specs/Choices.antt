-- The words that a choice of the grammar excludes (docs/language.md, "Choices"). `fidl_tree` states
-- the same lists beside the productions that they belong to, and keeps them to itself: a contract
-- here that named other words would not give the leaves of the tree.
use Rattle.std.specs.Prelude.{◌≡◌, ℕ, List, [], ◌∷◌, codes, slice_get, Some}
use Rattle.fidl_span.specs.declared.words.Word.{Word}
use Rattle.fidl_span.specs.declared.words.WordKind.TheVariants as kind
use Rattle.fidl_tree.specs.Leaf.{none_of, Meets, text_at}
use Rattle.fidl_parse.specs.declared.parser.Parser.{Parser}

-- Literals: a path in a value does not begin with these.
abbrev pub literals : List (List ℕ)
literals = codes "true" ∷ codes "false" ∷ []

-- Layout words: a named type does not begin with these.
abbrev pub layout_words : List (List ℕ)
layout_words =
    codes "bits" ∷ codes "enum" ∷ codes "struct" ∷ codes "table" ∷ codes "union"
    ∷ codes "strict" ∷ codes "flexible" ∷ codes "resource" ∷ []

-- a layout word stands at the place
abbrev pub IsLayoutWordAt : Parser → ℕ → Type 0
IsLayoutWordAt p at =
    (w : Word) × (slice_get p.words.now at ≡ Some w) × (w.kind ≡ kind.Identifier)
    × (¬ Meets (none_of layout_words) (text_at p.src.now w.span))
