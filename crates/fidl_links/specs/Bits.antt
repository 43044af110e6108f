-- Bits of a list of bytes.
use Rattle.std.specs.Prelude.{ℕ, Bool, true, false, List, get_or}
use Rattle.std.specs.Int.{bit_at}

-- the bit with the number b, the lowest first, of the byte with the number i: 0 or 1
abbrev pub bit : List ℕ → (i b : ℕ) → ℕ
bit bytes i b = bit_at (get_or bytes i 0) b

-- a test as a bit
abbrev pub flag : Bool → ℕ
flag true = 1
flag false = 0
