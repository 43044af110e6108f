-- Which words of a message hold links.
use Rattle.std.specs.Prelude.{ℕ, ◌+◌, ◌/◌, ◌%◌, List}
use Rattle.fidl_links.specs.Bits.{bit}

-- a byte for each word
abbrev pub Marks : Type 0
Marks = List ℕ

-- its lowest bit is 1 where a marker's link stands in the word, the next one where an envelope's does
abbrev pub marker_bit : Marks → (i : ℕ) → ℕ
marker_bit marks i = bit marks i 0

abbrev pub envelope_bit : Marks → (i : ℕ) → ℕ
envelope_bit marks i = bit marks i 1

-- the next two where a handle's link stands in the lower and in the upper half of the word; halves
-- are numbered on from word to word
abbrev pub handle_bit : Marks → (j : ℕ) → ℕ
handle_bit marks j = bit marks (j / 2) (2 + j % 2)

-- what a room is seen as: its marks, and how many steps the last message took
pub record Kept : Type 0 where
  pub marks : Marks
  pub steps : ℕ
