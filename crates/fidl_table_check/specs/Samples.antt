-- Tables, entries and rows for worked facts.
use Rattle.std.specs.Prelude.{ℕ, List, [], ◌∷◌}
use Rattle.fidl_table_format.specs.declared.record.Row.{Row}

-- the bytes of an entry of this kind and one byte, behind the header of a table of one entry, whose
-- name is "a"; what a reader of the entry doesn't ask is zero
abbrev pub one_entry : (kind : ℕ) → List ℕ
one_entry kind =
    0 ∷ 0 ∷ 0 ∷ 0 ∷ 0 ∷ 0 ∷ 0 ∷ 0 ∷ 1 ∷ 0 ∷ 0 ∷ 0 ∷ 0 ∷ 0 ∷ 0 ∷ 0 ∷ 0 ∷ 0 ∷ 0 ∷ 0
    ∷ 0 ∷ 0 ∷ 0 ∷ 0 ∷ 0 ∷ 0 ∷ 0 ∷ 0 ∷ 0 ∷ 0 ∷ 0 ∷ 0 ∷ 1 ∷ 0 ∷ 0 ∷ 0 ∷ 0 ∷ 0 ∷ 0 ∷ 0
    ∷ kind ∷ 0 ∷ 1 ∷ 0 ∷ 1 ∷ 0 ∷ 0 ∷ 0 ∷ 0 ∷ 0 ∷ 0 ∷ 0 ∷ 0 ∷ 0 ∷ 0 ∷ 0 ∷ 0 ∷ 0 ∷ 0 ∷ 0
    ∷ 0 ∷ 0 ∷ 0 ∷ 0 ∷ 0 ∷ 0 ∷ 0 ∷ 0 ∷ 0 ∷ 0 ∷ 0 ∷ 0 ∷ 0 ∷ 0 ∷ 0 ∷ 0 ∷ 1 ∷ 0 ∷ 0 ∷ 0
    ∷ 97 ∷ []

-- a row of this entry whose name is "a"
abbrev pub one_row : (entry : ℕ) → Row
one_row entry = record { key = 1; entry = entry; name_place = 0; name_length = 1 }
