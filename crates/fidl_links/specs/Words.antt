-- The words of a message: eight bytes each, read as a little-endian number.
use Rattle.std.specs.Prelude.{◌≡◌, ◌≢◌, ℕ, ◌+◌, ◌*◌, ◌/◌, ◌<◌, ◌≤◌, List, length, slice_index}
use Rattle.std.specs.Int.{w64}
use Rattle.fidl_wire.specs.Field.{number_at}

-- bytes have eight bits each
abbrev pub AreOctets : List ℕ → Type 0
AreOctets bytes = (k : ℕ) → slice_index bytes k < 256

-- the word with this number
unfoldable pub word : List ℕ → (i : ℕ) → ℕ
word bytes i = number_at w64 bytes (8 * i)

-- how many whole words a message has
abbrev pub words_of : List ℕ → ℕ
words_of bytes = length bytes / 8

-- of the bytes b, one word is written, and they are c
pub record Put (b c : List ℕ) (i x : ℕ) : Type 0 where
  pub len : length c ≡ length b
  pub number : word c i ≡ x
  pub words : (j : ℕ) → j ≢ i → 8 * j + 8 ≤ length b → word c j ≡ word b j
  pub tail : (k : ℕ) → 8 * i + 8 ≤ k → slice_index c k ≡ slice_index b k
