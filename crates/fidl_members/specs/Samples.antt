-- The tables of the worked facts.
use Rattle.std.specs.Prelude.{ℕ, List, ◌∷◌, ◌++◌, replicate, codes}
use Rattle.fidl_table_format.specs.Samples.{entry_bytes}

-- the bytes of a row with a name
abbrev pub named_row : (key entry place size : ℕ) → List ℕ
named_row key entry place size = key ∷ 0 ∷ 0 ∷ 0 ∷ entry ∷ 0 ∷ 0 ∷ 0 ∷ place ∷ 0 ∷ 0 ∷ 0 ∷ size
    ∷ replicate 3 0

-- a table of an entry of this kind and of uint8: the first has two rows of uint8, of which the
-- second has the last two of four letters as its name
abbrev pub two_rows : (kind first second : ℕ) → List ℕ → List ℕ
two_rows kind first second names =
    codes "FCT2" ++ 1 ∷ 0 ∷ 0 ∷ 0 ∷ 2 ∷ 0 ∷ 0 ∷ 0 ∷ 2 ∷ replicate 19 0 ++ 4 ∷ replicate 7 0
    ++ entry_bytes kind 0 2 0 2 0 ++ entry_bytes 6 0 1 0 0 0
    ++ named_row first 1 0 2 ++ named_row second 1 2 2 ++ names

-- a struct of two members, `id` and `on`, one of two with the same name, and a table of two members
-- or a union with the ordinals 1 and 3
abbrev pub id_and_on : List ℕ
id_and_on = two_rows 16 0 1 (codes "idon")

abbrev pub id_and_id : List ℕ
id_and_id = two_rows 16 0 1 (codes "idid")

abbrev pub a_table : List ℕ
a_table = two_rows 17 1 3 (codes "idon")

abbrev pub a_union : List ℕ
a_union = two_rows 18 1 3 (codes "idon")
