-- A table of the worked facts.
use Rattle.std.specs.Prelude.{ℕ, List, [], ◌∷◌, ◌++◌, replicate, codes}

-- a number below 256 in four bytes
abbrev pub four_bytes : ℕ → List ℕ
four_bytes n = n ∷ 0 ∷ 0 ∷ 0 ∷ []

-- `examples/point.fct`: `struct {x uint32; y uint32;}`, with the root `Point`
abbrev pub point : List ℕ
point =
    codes "FCT2" ++ four_bytes 1 ++ four_bytes 2 ++ four_bytes 2 ++ four_bytes 0 ++ four_bytes 1
    ++ four_bytes 0 ++ four_bytes 0 ++ four_bytes 12 ++ four_bytes 0
    ++ (16 ∷ 0 ∷ 4 ∷ 1 ∷ []) ++ four_bytes 8 ++ four_bytes 0 ++ four_bytes 2 ++ replicate 20 0
    ++ four_bytes 5
    ++ (8 ∷ 0 ∷ 4 ∷ 0 ∷ []) ++ four_bytes 4 ++ replicate 32 0
    ++ four_bytes 0 ++ four_bytes 1 ++ four_bytes 5 ++ four_bytes 1
    ++ four_bytes 4 ++ four_bytes 1 ++ four_bytes 6 ++ four_bytes 1
    ++ four_bytes 7 ++ four_bytes 5 ++ four_bytes 0
    ++ codes "PointxyPoint"
