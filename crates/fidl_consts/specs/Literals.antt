-- The values of the words of literals. `fidl_span`'s `is_number` and `IsString` say which texts are
-- such words.
use Rattle.std.specs.Prelude.{ℕ, ◌==◌, List, [], ◌∷◌, ◌++◌, drop, if◌then◌else◌}
use Rattle.std.specs.Char.{encode_utf8}
use Rattle.std.specs.List.{before_first}
use Rattle.std.specs.Str.Parse.{digits_value}
use Rattle.fidl_span.specs.Bytes.{quotation_mark, backslash}
use Rattle.fidl_span.specs.Names.{has_prefix}
use Rattle.fidl_span.specs.Strings.{hex_value}
use lib.Utf8.{scalar}

-- the number of a number word: hexadecimal after `0x` or `0X`, binary after `0b` or `0B`, and
-- else decimal. In a text that is no number word each byte counts as its `digit_value` in that
-- base, which is 36 for a byte that is no digit and no letter
abbrev pub number_of : List ℕ → ℕ
number_of text = if has_prefix 120 88 text then digits_value 16 (drop 2 text)
    else (if has_prefix 98 66 text then digits_value 2 (drop 2 text) else digits_value 10 text)

-- the UTF-8 bytes of the character with this number. A number that is no Unicode scalar value has
-- none
abbrev pub character_bytes : ℕ → List ℕ
character_bytes n = if scalar n then encode_utf8 n else []

-- the byte that a backslash and a letter stand for: a line feed for `n`, a carriage return for `r`
-- and a tab for `t`. Else it is the letter itself, as for a backslash and a quote
abbrev pub letter_value : ℕ → ℕ
letter_value c = if c == 110 then 10 else (if c == 114 then 13 else (if c == 116 then 9 else c))

-- the digits of `{`, digits and `}`, which stand first in the text
abbrev pub digits_in_braces : List ℕ → List ℕ
digits_in_braces text = drop 1 (before_first (λ b. b == 125) text)

abbrev mutual
  -- the bytes that a text stands for, up to the quote that ends it: each byte for itself, but for
  -- the escapes
  pub unescaped : List ℕ → List ℕ
  unescaped [] = []
  unescaped (b ∷ text) = if b == quotation_mark then []
      else (if b == backslash then after_backslash text else b ∷ unescaped text)

  -- the same after a backslash: `u` begins a code point in braces, and any other byte is a letter
  pub after_backslash : List ℕ → List ℕ
  after_backslash [] = []
  after_backslash (c ∷ text) = if c == 117 then character_bytes (hex_value (digits_in_braces text))
      ++ after_brace text
      else letter_value c ∷ unescaped text

  -- the same after the next `}`
  pub after_brace : List ℕ → List ℕ
  after_brace [] = []
  after_brace (b ∷ text) = if b == 125 then unescaped text else after_brace text

-- the bytes of a string word: those after its first quote. In a text that is no string word the
-- first byte counts as the quote, what follows the closing quote counts for nothing, and the end of
-- the text closes it as a quote does; between braces each byte counts as a digit, by its
-- `digit_value`
abbrev pub string_of : List ℕ → List ℕ
string_of text = unescaped (drop 1 text)
