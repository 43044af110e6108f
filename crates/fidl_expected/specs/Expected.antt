-- Which word was expected where the parser refuses a source (docs/program.md, "compile").
use Rattle.std.specs.Prelude.{◌≡◌, ◌<◌, ℕ, ◌+◌, List, ◌++◌, length, take, drop, codes}
use Rattle.fidl_span.specs.declared.words.Span.{Span}
use Rattle.fidl_span.specs.declared.words.Word.{Word}
use Rattle.fidl_span.specs.Words.{Words}
use Rattle.fidl_parse.specs.Trees.{HasTree}
use Rattle.fidl_parse.specs.Faults.{IsTrueOf}
use Rattle.fidl_parse.specs.declared.fault.ParseFault.TheVariants.{Unexpected}
use Rattle.fidl_expected.specs.declared.wanted.Wanted.{Wanted}
use Rattle.fidl_expected.specs.declared.wanted.Wanted.TheVariants.{Semicolon, OpenBrace, CloseBrace}
use Rattle.fidl_expected.specs.declared.wanted.Wanted.TheVariants.{OpenParenthesis, CloseParenthesis}
use Rattle.fidl_expected.specs.declared.wanted.Wanted.TheVariants.{CloseAngle, Equals, Comma, Colon, Name}

-- the word, of a name an example
abbrev pub word_of : Wanted → List ℕ
word_of Semicolon = codes ";"
word_of OpenBrace = codes "{"
word_of CloseBrace = codes "}"
word_of OpenParenthesis = codes "("
word_of CloseParenthesis = codes ")"
word_of CloseAngle = codes ">"
word_of Equals = codes "="
word_of Comma = codes ","
word_of Colon = codes ":"
word_of Name = codes "x"

-- what a user is shown of it
abbrev pub shown_word : Wanted → List ℕ
shown_word Semicolon = codes "';'"
shown_word OpenBrace = codes "'{'"
shown_word CloseBrace = codes "'}'"
shown_word OpenParenthesis = codes "'('"
shown_word CloseParenthesis = codes "')'"
shown_word CloseAngle = codes "'>'"
shown_word Equals = codes "'='"
shown_word Comma = codes "','"
shown_word Colon = codes "':'"
shown_word Name = codes "a name"

-- the source with a word at a place, between blanks
abbrev pub inserted : (src : List ℕ) (at : ℕ) (word : List ℕ) → List ℕ
inserted src at word = take at src ++ codes " " ++ word ++ codes " " ++ drop at src

-- with the word at the place the source has a tree; or it has none, and a refusal that is true of
-- it names a place behind the word and the first place behind that
pub data GoesOn (src : List ℕ) (at : ℕ) (word : List ℕ) : Type 0 where
  read : (ws : List Word) → Words (inserted src at word) ws
      → HasTree ws (inserted src at word) → GoesOn src at word
  later : (ws : List Word) (span : Span) → Words (inserted src at word) ws
      → ¬ HasTree ws (inserted src at word)
      → IsTrueOf ws (inserted src at word) (Unexpected span)
      → at + length word + 2 < span.from → GoesOn src at word
