-- What it means that the parser reads a part of the tree. Places count words from 0.
use Rattle.std.specs.Prelude.{◌≡◌, ℕ, ◌+◌, List, ◌++◌, length, take, slice_get, Some}
use Rattle.std.specs.List.{AllByRecursion}
use Rattle.fidl_span.specs.declared.words.Word.{Word}
use Rattle.fidl_span.specs.declared.words.WordKind.{WordKind}
use Rattle.fidl_span.specs.declared.words.WordKind.TheVariants as kind
use Rattle.fidl_tree.specs.Leaf.{Leaf, words, MeetsText, text_at}
use Rattle.fidl_parse.specs.declared.parser.Parser.{Parser}

-- From one place among the parser's words to another stand the words of these leaves, and in the
-- source each of them has a text as the grammar asks.
pub record Reads (p : Parser) (from to : ℕ) (leaves : List Leaf) : Type 0 where
  pub places : to ≡ from + length leaves
  pub stand : take to p.words.now ≡ take from p.words.now ++ words leaves
  pub texts : AllByRecursion (MeetsText p.src.now) leaves

-- Where a part's front was read up to one place, the whole part is read up to another, from
-- wherever the front began.
abbrev pub ReadsBehind : Parser → ℕ → ℕ → List Leaf → List Leaf → Type 0
ReadsBehind p from to front leaves = (start : ℕ) → Reads p start from front
    → Reads p start to leaves

-- a word of this kind stands at the place
abbrev pub IsKindAt : Parser → ℕ → WordKind → Type 0
IsKindAt p at k = (w : Word) × (slice_get p.words.now at ≡ Some w) × (w.kind ≡ k)

-- an identifier with this text stands at the place
abbrev pub IsTextAt : Parser → ℕ → List ℕ → Type 0
IsTextAt p at text =
    (w : Word) × (slice_get p.words.now at ≡ Some w) × (w.kind ≡ kind.Identifier)
    × (text_at p.src.now w.span ≡ text)
