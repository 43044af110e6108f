-- Numbers in messages and tables (docs/wire.md, "Encoding").
use Rattle.std.specs.Prelude.{ℕ, ◌+◌, List, slice_range}
use Rattle.std.specs.Int.{Width, byte_len, from_le_bytes}

-- the little-endian number of this width at a place
abbrev pub number_at : Width → List ℕ → (place : ℕ) → ℕ
number_at w bytes place = from_le_bytes w (slice_range bytes place (place + byte_len w))
