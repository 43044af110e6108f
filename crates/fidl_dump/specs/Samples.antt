-- The tables and frames of the worked facts.
use Rattle.std.specs.Prelude.{ℕ, List, [], ◌∷◌, ◌++◌, replicate, codes}
use Rattle.fidl_table_format.specs.Samples.{protocol_bytes}
use Rattle.fidl_verify.specs.Lookups.{TableProtocol}

-- the frame of a message of transaction id 7 and a flexible ordinal, without a body
abbrev pub an_unknown_frame : List ℕ
an_unknown_frame = 16 ∷ replicate 7 0 ++ 7 ∷ 0 ∷ 0 ∷ 0 ∷ 2 ∷ 0 ∷ 128 ∷ 1
    ∷ 186 ∷ 120 ∷ 22 ∷ 191 ∷ 143 ∷ 1 ∷ 207 ∷ 106 ∷ []

-- the first half of the head of a frame
abbrev pub four_bytes : List ℕ
four_bytes = 16 ∷ 0 ∷ 0 ∷ 0 ∷ []

-- a table of an empty struct, and of a protocol whose one-way method 1 carries it
abbrev pub one_value : List ℕ
one_value =
    codes "FCT2" ++ 1 ∷ 0 ∷ 0 ∷ 0 ∷ 1 ∷ replicate 15 0 ++ 1 ∷ 0 ∷ 0 ∷ 0 ∷ 1 ∷ 0 ∷ 0 ∷ 0 ∷ 1
    ∷ replicate 7 0
    ++ 16 ∷ 0 ∷ 1 ∷ 1 ∷ 1 ∷ replicate 35 0
    ++ protocol_bytes 0 2 1
    ++ 1 ∷ replicate 11 0 ++ 1 ∷ 0 ∷ 0 ∷ 0 ∷ 3 ∷ replicate 7 0 ++ replicate 4 255 ++ replicate 4 0
    ++ 112 ∷ []

-- its protocol
abbrev pub value_protocol : TableProtocol
value_protocol = record { table = one_value; number = 0 }
