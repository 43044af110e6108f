-- What each fault says of the words (docs/language.md, "Refusals of the parser").
use Rattle.std.specs.Prelude.{◌≡◌, ℕ, ◌+◌, List, length, take, slice_get, Some, ◌⊎◌}
use Rattle.fidl_span.specs.declared.words.Span.{Span}
use Rattle.fidl_span.specs.declared.words.Word.{Word}
use Rattle.fidl_tree.specs.Brackets.{IsWithinLimit}
use Rattle.fidl_parse.specs.declared.fault.ParseFault.{ParseFault}
use Rattle.fidl_parse.specs.declared.fault.ParseFault.TheVariants.{Unexpected, TooNested, Memory}
use Rattle.fidl_parse.specs.Nesting.{IsTooDeepAt}

-- this is the word number n, counted from 0, and the span is its own
pub record IsWordOf (ws : List Word) (n : ℕ) (span : Span) : Type 0 where
  pub word : Word
  pub stands : slice_get ws n ≡ Some word
  pub span_of : word.span ≡ span

-- the span of one of the words, up to and with which the limit of open brackets is kept
abbrev pub IsOfWord : List Word → Span → Type 0
IsOfWord ws span = (n : ℕ) × IsWordOf ws n span × IsWithinLimit (take (n + 1) ws)

-- the empty span at the end of a source in which the limit of open brackets is kept
abbrev pub IsAtEnd : List Word → List ℕ → Span → Type 0
IsAtEnd ws src span = (span.from ≡ length src) × (span.to ≡ length src) × IsWithinLimit ws

-- the span of the first bracket with which too many are open
abbrev pub IsOfBracket : List Word → Span → Type 0
IsOfBracket ws span = (n : ℕ) × IsWordOf ws n span × IsTooDeepAt ws n × IsWithinLimit (take n ws)

-- what a refusal says of the words; Memory says nothing
abbrev pub IsTrueOf : List Word → List ℕ → ParseFault → Type 0
IsTrueOf ws src (Unexpected span) = IsOfWord ws span ⊎ IsAtEnd ws src span
IsTrueOf ws src (TooNested span) = IsOfBracket ws span
IsTrueOf ws src Memory = Unit {0}
