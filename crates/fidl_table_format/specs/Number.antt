-- Numbers of a type of numbers at places of a message (docs/wire.md, "Encoding").
use Rattle.std.specs.Prelude.{ℕ, ℤ, pos, List, slice_index}
use Rattle.std.specs.Int.{w8, w16, w32, w64, cast_signed}
use Rattle.fidl_wire.specs.Term.{Kind, int8, int16, int32, int64, uint8, uint16, uint32, uint64}
use Rattle.fidl_wire.specs.Field.{number_at}

-- the number whose little-endian bytes stand at a place, in two's complement where its type is
-- signed
abbrev pub number_standing : Kind → List ℕ → (place : ℕ) → ℤ
number_standing int8 bytes place = cast_signed w8 (slice_index bytes place)
number_standing int16 bytes place = cast_signed w16 (number_at w16 bytes place)
number_standing int32 bytes place = cast_signed w32 (number_at w32 bytes place)
number_standing int64 bytes place = cast_signed w64 (number_at w64 bytes place)
number_standing uint8 bytes place = pos (slice_index bytes place)
number_standing uint16 bytes place = pos (number_at w16 bytes place)
number_standing uint32 bytes place = pos (number_at w32 bytes place)
number_standing uint64 bytes place = pos (number_at w64 bytes place)
