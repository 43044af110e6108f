-- String literals.
use Rattle.std.specs.Prelude.{◌≡◌, ◌≢◌, ℕ, ◌+◌, ◌*◌, ◌<◌, ◌≤◌, Bool, ◌||◌, ◌==◌, List, [], ◌∷◌}
use Rattle.std.specs.Prelude.{◌++◌, length, fold, IsTrue}
use Rattle.std.specs.Char.{IsScalar, digit_value, is_ascii_hexdigit}
use Rattle.std.specs.List.{list_all, concat, AllByRecursion}
use Rattle.fidl_span.specs.Bytes.{quotation_mark, backslash, line_feed}

-- string byte: any but a quote, a backslash and a line feed. A carriage return is one
pub record IsStringByte (b : ℕ) : Type 0 where
  pub no_quote : b ≢ quotation_mark
  pub no_backslash : b ≢ backslash
  pub no_line_feed : b ≢ line_feed

-- the letters of the escapes of two bytes: `\`, `"`, `n`, `r` and `t`
unfoldable pub is_escape_letter : ℕ → Bool
is_escape_letter c = c == 92 || c == 34 || c == 110 || c == 114 || c == 116

-- the number that hexadecimal digits write
abbrev pub hex_value : List ℕ → ℕ
hex_value digits = fold (λ n d. n * 16 + digit_value d) 0 digits

-- code point: one to six hexadecimal digits that write a Unicode scalar value
pub record IsCodePoint (text : List ℕ) : Type 0 where
  pub digits : IsTrue (list_all is_ascii_hexdigit text)
  pub some : 0 < length text
  pub at_most_six : length text ≤ 6
  pub scalar : IsScalar (hex_value text)

-- piece, of which a string literal is made between its quotes: a byte that stands for itself, or an
-- escape, which is a backslash and a letter, or `\u{`, a code point and `}`
pub data IsPiece : List ℕ → Type 0 where
  plain : {b : ℕ} → IsStringByte b → IsPiece (b ∷ [])
  letter : {c : ℕ} → IsTrue (is_escape_letter c) → IsPiece (92 ∷ c ∷ [])
  code_point : {text : List ℕ} → IsCodePoint text → IsPiece (92 ∷ 117 ∷ 123 ∷ (text ++ 125 ∷ []))

-- a quote and pieces, with no quote to close it
abbrev pub IsOpenString : List ℕ → Type 0
IsOpenString text = (pieces : List (List ℕ)) × AllByRecursion IsPiece pieces
    × (text ≡ quotation_mark ∷ concat pieces)

-- string literal: a quote, pieces and a quote
abbrev pub IsString : List ℕ → Type 0
IsString text = (front : List ℕ) × IsOpenString front × (text ≡ front ++ quotation_mark ∷ [])

-- neither a byte that stands for itself nor an escape can be read here
abbrev pub BeginsNoPiece : List ℕ → Type 0
BeginsNoPiece here = (piece rest : List ℕ) → IsPiece piece → here ≢ piece ++ rest
