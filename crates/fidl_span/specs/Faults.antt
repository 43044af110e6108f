-- What each fault says of the source.
use Rattle.std.specs.Prelude.{◌≡◌, ℕ, ◌+◌, ◌≤◌, ◌==◌, min, List, [], ◌∷◌, length, drop, slice_range}
use Rattle.std.specs.Prelude.{IsTrue, IsFalse, IsUtf8}
use Rattle.std.specs.Char.{is_ascii_digit}
use Rattle.std.specs.Str.Lossy.{utf8_valid_len}
use Rattle.fidl_span.specs.declared.words.Span.{Span}
use Rattle.fidl_span.specs.declared.words.Word.{Word}
use Rattle.fidl_span.specs.declared.words.WordKind.{WordKind}
use Rattle.fidl_span.specs.declared.faults.LexFault.{LexFault}
use Rattle.fidl_span.specs.declared.faults.LexFault.TheVariants.{NotUtf8, BadByte, BadIdentifier}
use Rattle.fidl_span.specs.declared.faults.LexFault.TheVariants.{OpenString, BadEscape, BadNumber}
use Rattle.fidl_span.specs.declared.faults.LexFault.TheVariants.{Memory}
use Rattle.fidl_span.specs.Bytes.{backslash, is_word_byte, begins, IsRun, EndsLine}
use Rattle.fidl_span.specs.Gaps.{BeginsNoGap}
use Rattle.fidl_span.specs.Names.{is_bad_identifier, is_number}
use Rattle.fidl_span.specs.Strings.{IsOpenString, BeginsNoPiece}
use Rattle.fidl_span.specs.Words.{IsWord, IsSpan, AreWordsBetween, Words, text_at, rest_behind}

-- not UTF-8: the span is the byte behind the longest front that is UTF-8
pub record IsNotUtf8 (src : List ℕ) (span : Span) : Type 0 where
  pub invalid : ¬ IsUtf8 src
  pub from : span.from ≡ utf8_valid_len src
  pub to : span.to ≡ span.from + 1

-- here stands a byte that is no word byte, and with which no blank, comment or word begins
abbrev pub BeginsNothing : List ℕ → Type 0
BeginsNothing [] = ⊥
BeginsNothing (b ∷ rest) = IsFalse (is_word_byte b) × BeginsNoGap (b ∷ rest)
    × ((kind : WordKind) (text behind : List ℕ) → ¬ IsWord kind (b ∷ text) behind)

-- bad byte: nothing begins with the byte of the span
pub record IsBadByte (src : List ℕ) (span : Span) : Type 0 where
  pub one_byte : span.to ≡ span.from + 1
  pub begins_nothing : BeginsNothing (drop span.from src)

-- bad identifier: the longest run of word bytes, which begins as a name does, begins or ends with
-- `_`
pub record IsBadIdentifier (text rest : List ℕ) : Type 0 where
  pub run : IsRun is_word_byte text rest
  pub bad : IsTrue (is_bad_identifier text)

-- bad number: the longest run of word bytes begins with a digit, and is no number
pub record IsBadNumber (text rest : List ℕ) : Type 0 where
  pub run : IsRun is_word_byte text rest
  pub digit : IsTrue (begins is_ascii_digit text)
  pub bad : IsFalse (is_number text)

-- open string: a quote and pieces up to the end of the line
pub record IsOpen (text rest : List ℕ) : Type 0 where
  pub front : IsOpenString text
  pub line_end : EndsLine rest

-- bad escape: behind the open string from `quote` on, the span's backslash begins no escape. The
-- span is the backslash and the byte behind it, if there is one
pub record IsBadEscape (src : List ℕ) (quote : ℕ) (span : Span) : Type 0 where
  pub behind : quote ≤ span.from
  pub front : IsOpenString (slice_range src quote span.from)
  pub backslash : IsTrue (begins (λ b. b == backslash) (drop span.from src))
  pub no_escape : BeginsNoPiece (drop span.from src)
  pub to : span.to ≡ min (span.from + 2) (length src)

-- where a word would have to begin, the fault stands
abbrev pub IsFaultAt : List ℕ → ℕ → LexFault → Type 0
IsFaultAt src place (BadByte span) = (span.from ≡ place) × IsSpan src span × IsBadByte src span
IsFaultAt src place (BadIdentifier span) = (span.from ≡ place) × IsSpan src span
    × IsBadIdentifier (text_at src span) (rest_behind src span)
IsFaultAt src place (OpenString span) = (span.from ≡ place) × IsSpan src span
    × IsOpen (text_at src span) (rest_behind src span)
IsFaultAt src place (BadEscape span) = IsSpan src span × IsBadEscape src place span
IsFaultAt src place (BadNumber span) = (span.from ≡ place) × IsSpan src span
    × IsBadNumber (text_at src span) (rest_behind src span)
IsFaultAt src place (NotUtf8 span) = ⊥
IsFaultAt src place Memory = ⊥

-- behind some words of the source and a gap, the fault stands
pub record StandsBehindWords (src : List ℕ) (fault : LexFault) : Type 0 where
  pub words : List Word
  pub place : ℕ
  pub before : AreWordsBetween src 0 words place
  pub at_fault : IsFaultAt src place fault

-- what a refusal says of the source; Memory says nothing
abbrev pub Refutes : List ℕ → LexFault → Type 0
Refutes src (NotUtf8 span) = IsNotUtf8 src span
Refutes src Memory = Unit {0}
Refutes src fault = StandsBehindWords src fault

-- unless memory ran out, the source has no words
abbrev pub HasNoWords : List ℕ → LexFault → Type 0
HasNoWords src Memory = Unit {0}
HasNoWords src fault = (words : List Word) → ¬ Words src words
