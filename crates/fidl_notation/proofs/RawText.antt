-- The bytes and handles of an unknown member, written one after another.
use Rattle.std.proofs.Common.{◌≡◌, ℕ, ◌+◌, ◌<◌, ◌≤◌, List, [], ◌++◌, Bool, true, length, drop, get_or, ap}
use Rattle.std.specs.Prelude.{flat_map}
use Rattle.std.proofs.lemmas.List.{drop_more, drop_all}
use Rattle.fidl_wire.specs.declared.handle.HandleInfo.{HandleInfo}
use Rattle.fidl_wire.specs.Text.{hex_byte, comma_if, handle_text, handles_text}

-- what is left of bytes behind a number of them
abbrev pub hex_left : List ℕ → ℕ → List ℕ
hex_left bytes i = flat_map hex_byte (drop i bytes)

pub hex_more : (bytes : List ℕ) (i : ℕ) (d : ℕ) → i < length bytes → hex_left bytes i ≡ hex_byte (get_or bytes i d) ++ hex_left bytes (i + 1)
hex_more bytes i d lt = ap (λ (l : List ℕ). flat_map hex_byte l) (drop_more bytes i d lt)

pub hex_end : (bytes : List ℕ) (i : ℕ) → length bytes ≤ i → hex_left bytes i ≡ []
hex_end bytes i le = ap (λ (l : List ℕ). flat_map hex_byte l) (drop_all i bytes le)

-- what is left of handles behind a number of them
abbrev pub handles_left : (later : Bool) → List HandleInfo → ℕ → List ℕ
handles_left later handles i = handles_text later (drop i handles)

pub handles_more : (later : Bool) (handles : List HandleInfo) (i : ℕ) (d : HandleInfo) → i < length handles → handles_left later handles i ≡ (comma_if later ++ handle_text (get_or handles i d)) ++ handles_left true handles (i + 1)
handles_more later handles i d lt = ap (λ (l : List HandleInfo). handles_text later l) (drop_more handles i d lt)

pub handles_end : (later : Bool) (handles : List HandleInfo) (i : ℕ) → length handles ≤ i → handles_left later handles i ≡ []
handles_end later handles i le = ap (λ (l : List HandleInfo). handles_text later l) (drop_all i handles le)
