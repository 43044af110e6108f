-- The classes of bytes, and runs of bytes of a class.
use Rattle.std.specs.Prelude.{◌≡◌, ℕ, Bool, false, ◌||◌, ◌==◌, List, [], ◌∷◌, IsTrue, IsFalse}
use Rattle.std.specs.Char.{is_ascii_alphanumeric}
use Rattle.std.specs.List.{list_all}

-- bytes with a part in the rules: `_`, `"`, a backslash, `/`, `>` and a line feed
abbrev pub underscore : ℕ
underscore = 95

abbrev pub quotation_mark : ℕ
quotation_mark = 34

abbrev pub backslash : ℕ
backslash = 92

abbrev pub slash : ℕ
slash = 47

abbrev pub greater_than : ℕ
greater_than = 62

abbrev pub line_feed : ℕ
line_feed = 10

-- word bytes: the letters and digits of ASCII, and `_`
unfoldable pub is_word_byte : ℕ → Bool
is_word_byte b = is_ascii_alphanumeric b || b == underscore

-- blanks: space, tab, carriage return and line feed
unfoldable pub is_blank : ℕ → Bool
is_blank b = b == 32 || b == 9 || b == 13 || b == line_feed

-- the digits of base 2
abbrev pub is_binary_digit : ℕ → Bool
is_binary_digit b = b == 48 || b == 49

-- whether there is a first byte, and it passes the test
abbrev pub begins : (ℕ → Bool) → List ℕ → Bool
begins test [] = false
begins test (b ∷ bs) = test b

-- longest run: each byte of the text passes the test, and what follows doesn't begin with one that
-- does
pub record IsRun (test : ℕ → Bool) (text rest : List ℕ) : Type 0 where
  pub passes : IsTrue (list_all test text)
  pub stops : IsFalse (begins test rest)

-- end of line: a line feed follows, or nothing
abbrev pub EndsLine : List ℕ → Type 0
EndsLine [] = Unit {0}
EndsLine (b ∷ rest) = b ≡ line_feed
