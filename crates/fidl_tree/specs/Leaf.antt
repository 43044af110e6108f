-- The leaves of a syntax tree (docs/language.md, "Grammar"): its words, each with what the grammar
-- asks of its text.
use Rattle.std.specs.Prelude.{ℕ, ◌-◌, ◌≡◌, ◌≢◌, ⊤, List, [], ◌∷◌, ◌++◌, map, take, drop, Option}
use Rattle.std.specs.Prelude.{None, Some}
use Rattle.std.specs.List.{AllByRecursion}
use Rattle.fidl_span.specs.declared.words.Span.{Span}
use Rattle.fidl_span.specs.declared.words.Word.{Word}
use Rattle.fidl_span.specs.declared.words.WordKind.{WordKind}
use Rattle.fidl_span.specs.declared.words.WordKind.TheVariants as kind

-- what the grammar asks of a word's text: nothing, this very text, or none of these texts
pub data Text : Type 0 where
  any : Text
  is : List ℕ → Text
  none_of : List (List ℕ) → Text

pub record Leaf : Type 0 where
  pub word : Word
  pub text : Text

-- the words of leaves
abbrev pub words : List Leaf → List Word
words = map (λ l. l.word)

-- the bytes of the source that lie in a span
abbrev pub text_at : List ℕ → Span → List ℕ
text_at src s = take (s.to - s.from) (drop s.from src)

-- a text is as the grammar asks
abbrev pub Meets : Text → List ℕ → Type 0
Meets any text = ⊤
Meets (is wanted) text = text ≡ wanted
Meets (none_of others) text = AllByRecursion (λ other. text ≢ other) others

-- in this source the word has a text as the grammar asks
abbrev pub MeetsText : List ℕ → Leaf → Type 0
MeetsText src l = Meets l.text (text_at src l.word.span)

-- The forms of leaves that the grammar's productions are written in.

-- one word
abbrev pub leaf : WordKind → Span → Text → List Leaf
leaf k s t = record { word = record { kind = k; span = s }; text = t } ∷ []

-- a symbol, a number or a string
abbrev pub symbol : WordKind → Span → List Leaf
symbol k s = leaf k s any

-- a name
abbrev pub name : Span → List Leaf
name s = leaf kind.Identifier s any

-- a word of the grammar
abbrev pub keyword : List ℕ → Span → List Leaf
keyword text s = leaf kind.Identifier s (is text)

-- a part that may be left out
abbrev pub optional : {T : Type 0} → (T → List Leaf) → Option T → List Leaf
optional f None = []
optional f (Some x) = f x

-- parts one after another
abbrev pub joined : List (List Leaf) → List Leaf
joined [] = []
joined (p ∷ ps) = p ++ joined ps

-- parts in braces
abbrev pub braced : Span → List Leaf → Span → List Leaf
braced left parts right = symbol kind.LeftBrace left ++ parts ++ symbol kind.RightBrace right
