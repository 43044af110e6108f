-- What the words of a source are.
use Rattle.std.specs.Prelude.{◌≡◌, ℕ, ◌≤◌, ◌==◌, List, [], ◌∷◌, length, drop, slice_range, codes}
use Rattle.std.specs.Prelude.{IsTrue, IsFalse, IsUtf8}
use Rattle.fidl_span.specs.declared.words.Span.{Span}
use Rattle.fidl_span.specs.declared.words.Word.{Word}
use Rattle.fidl_span.specs.declared.words.WordKind.{WordKind}
use Rattle.fidl_span.specs.declared.words.WordKind.TheVariants.{Identifier, Number, String}
use Rattle.fidl_span.specs.declared.words.WordKind.TheVariants.{Semicolon, Colon, Comma, Dot}
use Rattle.fidl_span.specs.declared.words.WordKind.TheVariants.{Equals, Bar, At, LeftParenthesis}
use Rattle.fidl_span.specs.declared.words.WordKind.TheVariants.{RightParenthesis, LeftBrace}
use Rattle.fidl_span.specs.declared.words.WordKind.TheVariants.{RightBrace, Less, Greater, Minus}
use Rattle.fidl_span.specs.declared.words.WordKind.TheVariants.{Arrow}
use Rattle.fidl_span.specs.Bytes.{greater_than, is_word_byte, begins, IsRun}
use Rattle.fidl_span.specs.Gaps.{IsGap}
use Rattle.fidl_span.specs.Names.{is_identifier, is_number}
use Rattle.fidl_span.specs.Strings.{IsString}

-- whole word: the text is a word of this kind where rest follows
abbrev pub IsWord : WordKind → List ℕ → List ℕ → Type 0
IsWord Identifier text rest = IsRun is_word_byte text rest × IsTrue (is_identifier text)
IsWord Number text rest = IsRun is_word_byte text rest × IsTrue (is_number text)
IsWord String text rest = IsString text
IsWord Semicolon text rest = text ≡ codes ";"
IsWord Colon text rest = text ≡ codes ":"
IsWord Comma text rest = text ≡ codes ","
IsWord Dot text rest = text ≡ codes "."
IsWord Equals text rest = text ≡ codes "="
IsWord Bar text rest = text ≡ codes "|"
IsWord At text rest = text ≡ codes "@"
IsWord LeftParenthesis text rest = text ≡ codes "("
IsWord RightParenthesis text rest = text ≡ codes ")"
IsWord LeftBrace text rest = text ≡ codes "{"
IsWord RightBrace text rest = text ≡ codes "}"
IsWord Less text rest = text ≡ codes "<"
IsWord Greater text rest = text ≡ codes ">"
IsWord Minus text rest = (text ≡ codes "-") × IsFalse (begins (λ b. b == greater_than) rest)
IsWord Arrow text rest = text ≡ codes "->"

-- the text at a span, and what follows it
abbrev pub text_at : List ℕ → Span → List ℕ
text_at src span = slice_range src span.from span.to

abbrev pub rest_behind : List ℕ → Span → List ℕ
rest_behind src span = drop span.to src

-- a span of this source
pub record IsSpan (src : List ℕ) (span : Span) : Type 0 where
  pub ordered : span.from ≤ span.to
  pub within : span.to ≤ length src

-- a word stands at its span
pub record StandsAt (src : List ℕ) (word : Word) : Type 0 where
  pub span : IsSpan src word.span
  pub reads : IsWord word.kind (text_at src word.span) (rest_behind src word.span)

-- only blanks and comments stand from one place to another
pub record IsGapBetween (src : List ℕ) (from to : ℕ) : Type 0 where
  pub ordered : from ≤ to
  pub within : to ≤ length src
  pub gap : IsGap (slice_range src from to) (drop to src)

-- from one place to another these words stand, in this order, and only gaps before, between and
-- after them
abbrev pub AreWordsBetween : List ℕ → ℕ → List Word → ℕ → Type 0
AreWordsBetween src from [] to = IsGapBetween src from to
AreWordsBetween src from (word ∷ words) to =
    IsGapBetween src from word.span.from × StandsAt src word
    × AreWordsBetween src word.span.to words to

-- the words of a source: it is UTF-8, and they stand in it from its start to its end
abbrev pub Words : List ℕ → List Word → Type 0
Words src words = IsUtf8 src × AreWordsBetween src 0 words (length src)

-- a source is cut into words in at most one way
abbrev pub WordsAreUnique : Type 0
WordsAreUnique = (src : List ℕ) (words others : List Word) → Words src words → Words src others
    → words ≡ others
