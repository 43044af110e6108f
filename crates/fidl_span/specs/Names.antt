-- Which runs of word bytes are identifiers, and which are numbers.
use Rattle.std.specs.Prelude.{ℕ, ◌-◌, Bool, not, ◌&&◌, ◌||◌, ◌==◌, List, length, drop, slice_index}
use Rattle.std.specs.Char.{is_ascii_alphabetic, is_ascii_digit, is_ascii_hexdigit}
use Rattle.std.specs.List.{list_all}
use Rattle.fidl_span.specs.Bytes.{underscore, begins, is_binary_digit}

-- the last byte, or 0 where there is none
abbrev pub last_byte : List ℕ → ℕ
last_byte text = slice_index text (length text - 1)

-- identifier: it begins with a letter, and doesn't end with `_`
unfoldable pub is_identifier : List ℕ → Bool
is_identifier text = begins is_ascii_alphabetic text && not (last_byte text == underscore)

-- bad identifier: it begins with a letter or `_`, and it begins or ends with `_`
unfoldable pub is_bad_identifier : List ℕ → Bool
is_bad_identifier text =
    begins (λ b. b == underscore) text ||
    (begins is_ascii_alphabetic text && last_byte text == underscore)

-- at least one digit, and nothing else
abbrev pub are_digits : (ℕ → Bool) → List ℕ → Bool
are_digits digit text = not (length text == 0) && list_all digit text

-- whether `0` stands first, and one of two letters behind it
abbrev pub has_prefix : ℕ → ℕ → List ℕ → Bool
has_prefix lower upper text =
    slice_index text 0 == 48 && (slice_index text 1 == lower || slice_index text 1 == upper)

-- `0`, a letter in either case, and digits of the letter's base
abbrev pub is_prefixed : ℕ → ℕ → (ℕ → Bool) → List ℕ → Bool
is_prefixed lower upper digit text = has_prefix lower upper text && are_digits digit (drop 2 text)

-- number: decimal digits, or `0x` or `0X` and hexadecimal digits, or `0b` or `0B` and binary digits
unfoldable pub is_number : List ℕ → Bool
is_number text = are_digits is_ascii_digit text
    || is_prefixed 120 88 is_ascii_hexdigit text
    || is_prefixed 98 66 is_binary_digit text
