-- The numbers that stand at a place, by the type of numbers that they are of.
use Rattle.std.specs.Prelude.{ℕ, ℤ, pos, List, Option, Some, None}
use Rattle.fidl_wire.specs.Term.{Kind, int8, int16, int32, int64, uint8, uint16, uint32, uint64}
use Rattle.fidl_table_format.specs.Number.{number_standing}

-- a number of a type without a sign
abbrev pub unsigned_in : Kind → ℤ → Option ℕ
unsigned_in uint8 (pos n) = Some n
unsigned_in uint16 (pos n) = Some n
unsigned_in uint32 (pos n) = Some n
unsigned_in uint64 (pos n) = Some n
unsigned_in _ _ = None

-- a number of a type with a sign
abbrev pub signed_in : Kind → ℤ → Option ℤ
signed_in int8 z = Some z
signed_in int16 z = Some z
signed_in int32 z = Some z
signed_in int64 z = Some z
signed_in _ z = None

-- the number at a place, where it is of a type without a sign
abbrev pub unsigned_at : Option Kind → List ℕ → (place : ℕ) → Option ℕ
unsigned_at None bytes place = None
unsigned_at (Some kind) bytes place = unsigned_in kind (number_standing kind bytes place)

-- the number at a place, where it is of a type with a sign
abbrev pub signed_at : Option Kind → List ℕ → (place : ℕ) → Option ℤ
signed_at None bytes place = None
signed_at (Some kind) bytes place = signed_in kind (number_standing kind bytes place)
