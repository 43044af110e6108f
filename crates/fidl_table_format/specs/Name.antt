-- Which bytes the names of a table have (docs/table.md, "Names").
use Rattle.std.specs.Prelude.{◌≢◌, ℕ, ◌+◌, ◌-◌, ◌<◌, ◌≤◌, ◌==◌, ◌&&◌, ◌||◌, nat_le, Bool, List}
use Rattle.std.specs.Prelude.{length, slice_index, IsTrue}
use Rattle.std.specs.List.{list_all}
use Rattle.fidl_table_format.specs.declared.record.Header.{Header}
use Rattle.fidl_table_format.specs.Section.{name_at}

-- `A` to `Z`, `a` to `z`
abbrev pub is_letter : ℕ → Bool
is_letter b = (nat_le 65 b && nat_le b 90) || (nat_le 97 b && nat_le b 122)

-- a letter, `0` to `9`, `_`
abbrev pub is_word_byte : ℕ → Bool
is_word_byte b = is_letter b || (nat_le 48 b && nat_le b 57) || (b == 95)

-- a letter, a digit, `_`, `.`, `/`
abbrev pub is_name_byte : ℕ → Bool
is_name_byte b = is_word_byte b || (b == 46) || (b == 47)

-- an identifier of the language: letters, digits and `_`, with a letter at its start and no `_` at
-- its end
pub record IsIdentifier (name : List ℕ) : Type 0 where
  pub some : 0 < length name
  pub begins : IsTrue (is_letter (slice_index name 0))
  pub ends : slice_index name (length name - 1) ≢ 95
  pub only : IsTrue (list_all is_word_byte name)

-- a name that lies within the names and has their bytes alone; it may be empty
pub record IsName (bytes : List ℕ) (h : Header) (place name_length : ℕ) : Type 0 where
  pub within : place + name_length ≤ h.names
  pub only : IsTrue (list_all is_name_byte (name_at bytes h place name_length))

-- a member's name lies within the names, and is an identifier
pub record IsMemberName (bytes : List ℕ) (h : Header) (place name_length : ℕ) : Type 0 where
  pub within : place + name_length ≤ h.names
  pub identifier : IsIdentifier (name_at bytes h place name_length)

-- a full name: one within the names that isn't empty
pub record IsFullName (bytes : List ℕ) (h : Header) (place name_length : ℕ) : Type 0 where
  pub name : IsName bytes h place name_length
  pub some : 0 < name_length
