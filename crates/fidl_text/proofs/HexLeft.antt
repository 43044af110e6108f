-- Bytes by their hex digits, written one after another.
use Rattle.std.proofs.Common.{◌≡◌, ℕ, ◌+◌, ◌<◌, ◌≤◌, List, [], ◌++◌, length, drop, get_or, ap}
use Rattle.std.specs.Prelude.{flat_map}
use Rattle.std.proofs.lemmas.List.{drop_more, drop_all}
use Rattle.fidl_wire.specs.Text.{hex_byte}

-- what is left of bytes behind a number of them
abbrev pub hex_left : List ℕ → ℕ → List ℕ
hex_left bytes i = flat_map hex_byte (drop i bytes)

pub hex_more : (bytes : List ℕ) (i : ℕ) (d : ℕ) → i < length bytes → hex_left bytes i ≡ hex_byte (get_or bytes i d) ++ hex_left bytes (i + 1)
hex_more bytes i d lt = ap (λ (l : List ℕ). flat_map hex_byte l) (drop_more bytes i d lt)

pub hex_end : (bytes : List ℕ) (i : ℕ) → length bytes ≤ i → hex_left bytes i ≡ []
hex_end bytes i le = ap (λ (l : List ℕ). flat_map hex_byte l) (drop_all i bytes le)
