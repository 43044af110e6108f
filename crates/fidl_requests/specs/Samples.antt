-- The tables and frames of the worked facts.
use Rattle.std.specs.Prelude.{ℕ, ◌+◌, List, [], ◌∷◌, ◌++◌, length, replicate, codes}
use Rattle.fidl_table_format.specs.Samples.{header_bytes, entry_bytes, protocol_bytes, method_bytes}
use Rattle.fidl_verify.specs.Lookups.{TableProtocol}

-- a table without types, of one protocol of this openness, whose methods have no payloads: the
-- one-way method 1, the event 2 and the two-way method 3
abbrev pub one_protocol : (openness : ℕ) → List ℕ
one_protocol openness =
    codes "FCT2" ++ 1 ∷ 0 ∷ 0 ∷ 0 ∷ replicate 16 0 ++ 1 ∷ 0 ∷ 0 ∷ 0 ∷ 3 ∷ 0 ∷ 0 ∷ 0 ∷ 1
    ∷ replicate 7 0
    ++ protocol_bytes 0 openness 3
    ++ method_bytes 1 3 ++ method_bytes 2 5 ++ method_bytes 3 7 ++ 112 ∷ []

-- its protocol
abbrev pub protocol_of : (openness : ℕ) → TableProtocol
protocol_of openness = record { table = one_protocol openness; number = 0 }

-- a table of one entry, which is bool
abbrev pub one_bool : List ℕ
one_bool = header_bytes 1 0 ++ entry_bytes 1 0 1 0 0 0

-- a frame without handles, whose message has this magic number, transaction id and ordinal, these
-- dynamic flags, and these bytes behind its header
abbrev pub a_frame : (magic txid flags ordinal : ℕ) → (body : List ℕ) → List ℕ
a_frame magic txid flags ordinal body =
    (16 + length body) ∷ replicate 7 0 ++ txid ∷ 0 ∷ 0 ∷ 0 ∷ 2 ∷ 0 ∷ flags ∷ magic
    ∷ ordinal ∷ replicate 7 0 ++ body

-- a frame of a message of one byte, and two handles
abbrev pub a_handle_frame : List ℕ
a_handle_frame = 1 ∷ 0 ∷ 0 ∷ 0 ∷ 2 ∷ 0 ∷ 0 ∷ 0 ∷ 9
    ∷ 4 ∷ 0 ∷ 0 ∷ 0 ∷ 5 ∷ 0 ∷ 0 ∷ 0 ∷ 6 ∷ 0 ∷ 0 ∷ 0
    ∷ 7 ∷ 0 ∷ 0 ∷ 0 ∷ 8 ∷ 0 ∷ 0 ∷ 0 ∷ 9 ∷ 1 ∷ 0 ∷ 0 ∷ []
