-- Ordinals of methods (docs/language.md, "Ordinals").
use Rattle.std.specs.Prelude.{ℕ, ◌%◌, ◌^◌, List, take}
use Rattle.std.specs.Int.{w64, from_le_bytes}
use Rattle.sha2.specs.Sha256.{sha256}

-- the ordinal of a text: the first eight bytes of its SHA-256 digest as a little-endian number, its
-- top bit cleared
abbrev pub ordinal : List ℕ → ℕ
ordinal text = from_le_bytes w64 (take 8 (sha256 text)) % 2 ^ 63
