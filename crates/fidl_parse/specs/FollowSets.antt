-- What may follow a part of the tree, so that the part ends there.
use Rattle.std.specs.Prelude.{◌≡◌, ⊤, ℕ, Bool, true, false, not, ◌||◌, ◌&&◌, eqb, ◌⊎◌, List, []}
use Rattle.std.specs.Prelude.{◌∷◌, codes}
use Rattle.std.specs.List.{list_any}
use Rattle.fidl_span.specs.declared.words.WordKind.{WordKind}
use Rattle.fidl_span.specs.declared.words.WordKind.TheVariants as kind
use Rattle.fidl_tree.specs.Leaf.{Leaf, Text, is}

-- anything
abbrev pub Anything : List Leaf → Type 0
Anything rest = ⊤

-- nothing
abbrev pub IsNothing : List Leaf → Type 0
IsNothing rest = rest ≡ []

-- a word of this kind
abbrev pub Begins : WordKind → List Leaf → Type 0
Begins k [] = ⊥
Begins k (l ∷ rest) = l.word.kind ≡ k

-- no word of a kind that this test picks out
abbrev pub Not : (WordKind → Bool) → List Leaf → Type 0
Not picks [] = ⊤
Not picks (l ∷ rest) = picks l.word.kind ≡ false

-- `.` goes on with a path
abbrev pub extends_path : WordKind → Bool
extends_path kind.Dot = true
extends_path _ = false

-- `.` and `|` go on with a value
abbrev pub extends_value : WordKind → Bool
extends_value kind.Dot = true
extends_value kind.Bar = true
extends_value _ = false

-- `<` goes on with the name of a type
abbrev pub extends_name : WordKind → Bool
extends_name kind.Less = true
extends_name _ = false

-- `.`, `|`, `<` and `:` go on with a type
abbrev pub extends_type : WordKind → Bool
extends_type kind.Dot = true
extends_type kind.Bar = true
extends_type kind.Less = true
extends_type kind.Colon = true
extends_type _ = false

-- `(` goes on with an attribute
abbrev pub extends_attribute : WordKind → Bool
extends_attribute kind.LeftParenthesis = true
extends_attribute _ = false

-- `@` and `(` go on with attributes
abbrev pub extends_attributes : WordKind → Bool
extends_attributes kind.At = true
extends_attributes kind.LeftParenthesis = true
extends_attributes _ = false

-- `,` and `)` stand behind an argument
abbrev pub EndsArgument : List Leaf → Type 0
EndsArgument [] = ⊥
EndsArgument (l ∷ rest) = (l.word.kind ≡ kind.Comma) ⊎ (l.word.kind ≡ kind.RightParenthesis)

-- no identifier with `=` behind it
abbrev pub NotNamed : List Leaf → Type 0
NotNamed [] = ⊤
NotNamed (l ∷ []) = ⊤
NotNamed (l ∷ m ∷ rest) = l.word.kind ≡ kind.Identifier → m.word.kind ≡ kind.Equals → ⊥

-- `->`, or a name with `(` behind it
abbrev pub BeginsMethod : List Leaf → Type 0
BeginsMethod [] = ⊥
BeginsMethod (l ∷ []) = ⊥
BeginsMethod (l ∷ m ∷ rest) =
    (l.word.kind ≡ kind.Arrow)
    ⊎ ((l.word.kind ≡ kind.Identifier) × (m.word.kind ≡ kind.LeftParenthesis))

-- the two texts are one
abbrev pub same_text : List ℕ → List ℕ → Bool
same_text [] [] = true
same_text (a ∷ as') (b ∷ bs) = eqb a b && same_text as' bs
same_text _ _ = false

-- the word is a name or a word of the grammar
abbrev pub is_identifier : WordKind → Bool
is_identifier kind.Identifier = true
is_identifier _ = false

-- the grammar asks for a text that is none of these
abbrev pub excludes : List (List ℕ) → Text → Bool
excludes others (is wanted) = not (list_any (same_text wanted) others)
excludes others _ = false

-- no identifier with one of these texts
abbrev pub NotWord : List (List ℕ) → List Leaf → Type 0
NotWord others [] = ⊤
NotWord others (l ∷ rest) = (not (is_identifier l.word.kind) || excludes others l.text) ≡ true

-- the words of strictness
abbrev pub strictness_words : List (List ℕ)
strictness_words = codes "strict" ∷ codes "flexible" ∷ []

-- the words that may stand before the keyword of a layout
abbrev pub modifier_words : List (List ℕ)
modifier_words = codes "resource" ∷ strictness_words
