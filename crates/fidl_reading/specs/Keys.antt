-- What comes before a member of a table or union (docs/notation.md, "What a text spells").
use Rattle.std.specs.Prelude.{◌≡◌, ◌≢◌, ◌^◌, ◌+◌, ◌<◌, ℕ, List, ◌∷◌, codes, Option, Some, None}
use Rattle.std.specs.Prelude.{◌&&◌, not, Bool, IsTrue, IsFalse, slice_index}
use Rattle.std.specs.Char.{is_ascii_digit}
use Rattle.fidl_wire.specs.Term.{Rows, find}
use Rattle.fidl_wire.specs.Term as ty
use Rattle.fidl_table_format.specs.Section.{header_of, row_at, name_at}
use Rattle.fidl_spelling.specs.Words.{Words, is_word_byte}
use Rattle.fidl_spelling.specs.Spells.{The, One, ◌⨾◌, IsNumberBelow, Means}
use Rattle.fidl_reading.specs.declared.key.Key.{Key}

-- a word that begins with a letter or `_`, as names do and numbers do not
abbrev pub is_name : List ℕ → Bool
is_name word = is_word_byte (slice_index word 0) && not (is_ascii_digit (slice_index word 0))

-- the name that a row of a table gives to its member
abbrev pub name_of_row : (table : List ℕ) (row : ℕ) → List ℕ
name_of_row table row =
    let r = row_at table (header_of table) row in
    name_at table (header_of table) r.name_place r.name_length

-- no row of these bears the name
abbrev pub HasNoRow : (table : List ℕ) (first count : ℕ) (name : List ℕ) → Type 0
HasNoRow table first count name = (k : ℕ) → k < count → name_of_row table (first + k) ≢ name

-- the word is the ordinal of an unknown member, or the name of a member, by the entry of its type
abbrev pub Tells : Rows → (ordinal : ℕ) → Option ℕ → (word : List ℕ) → Type 0
Tells rows ordinal None word = IsFalse (is_name word) × IsNumberBelow (2 ^ 64) ordinal word
Tells rows ordinal (Some entry) word = IsTrue (is_name word) × Means rows ordinal word
    × (find rows ordinal ≡ Some (ty.named entry))

-- such a word and a colon
abbrev pub AKey : Rows → Key → Words → Words → Type 0
AKey rows key ws rest = (word : List ℕ) × Tells rows key.ordinal key.entry word
    × (ws ≡ word ∷ codes ":" ∷ rest)

-- the name of a row and a colon
abbrev pub ANameOf : (table : List ℕ) (row : ℕ) → Words → Words → Type 0
ANameOf table row = One (λ word. word ≡ name_of_row table row) ⨾ The ":"
