-- What a word of a message says, by the bits of its mark: whether it holds a marker's link,
-- an envelope's, and whether its halves hold handles' links.
use Rattle.std.specs.Prelude.{◌<◌, ◌≤◌, ℕ, zero, suc, ◌+◌, ◌-◌, ◌*◌, ◌/◌, ◌%◌, ◌^◌}

-- ---- how links are written

-- the link of an envelope whose member lies out of line: from the lowest bit on, the place of its
-- object in eights, the number of bytes below it in eights, the number of handles, and the first
-- record; the top bit is 0
abbrev pub out_of_line : (object count handles first : ℕ) → ℕ
out_of_line object count handles first =
    object / 8 + count / 8 * 2 ^ 24 + handles * 2 ^ 48 + first * 2 ^ 55

-- that of an envelope in which the member stands: its lower half stays, the number of handles and
-- the first record lie where they do in the other, and the top bit is 1
abbrev pub inline : (w handles first : ℕ) → ℕ
inline w handles first = w % 2 ^ 32 + handles * 2 ^ 48 + first * 2 ^ 55 + 2 ^ 63

-- a word with another half: the link of a handle
abbrev pub with_low : (w x : ℕ) → ℕ
with_low w x = x + w / 2 ^ 32 * 2 ^ 32

abbrev pub with_high : (w x : ℕ) → ℕ
with_high w x = w % 2 ^ 32 + x * 2 ^ 32

-- ---- what an envelope's link says

-- the word that came, of a member out of line: the number of bytes and the number of handles
abbrev pub counts_of : ℕ → ℕ
counts_of w = w / 2 ^ 24 % 2 ^ 24 * 8 + w / 2 ^ 48 % 2 ^ 7 * 2 ^ 32

-- the upper half of the word that came, of a member in the envelope: the number of handles, and
-- flags 1
abbrev pub inside_of : ℕ → ℕ
inside_of w = w / 2 ^ 48 % 2 ^ 7 * 2 ^ 32 + 2 ^ 48

-- the first record of the member
abbrev pub first_of : ℕ → ℕ
first_of w = w / 2 ^ 55 % 2 ^ 7

-- where the object of a member out of line begins
abbrev pub place_of : ℕ → ℕ
place_of w = w % 2 ^ 24 * 8

-- ---- the word that came

-- a half that came: ones where it holds a handle's link
abbrev pub low : (h w : ℕ) → ℕ
low zero w = w % 2 ^ 32
low (suc h) w = 2 ^ 32 - 1

abbrev pub high : (h w : ℕ) → ℕ
high zero w = w / 2 ^ 32
high (suc h) w = 2 ^ 32 - 1

-- an envelope that came, by the top bit of its link: its member lies out of line, or in it
abbrev pub envelope_came : (top h w : ℕ) → ℕ
envelope_came zero h w = counts_of w
envelope_came (suc t) h w = low h w + inside_of w

abbrev pub came_word : (marker envelope lower upper w : ℕ) → ℕ
came_word (suc m) e h k w = 2 ^ 64 - 1
came_word zero (suc e) h k w = envelope_came (w / 2 ^ 63) h w
came_word zero zero h k w = low h w + high k w * 2 ^ 32

-- ---- the link

-- where the object of a word begins: 0 where it links none
abbrev pub envelope_object : (top w : ℕ) → ℕ
envelope_object zero w = place_of w
envelope_object (suc t) w = 0

abbrev pub object_cell : (marker envelope w : ℕ) → ℕ
object_cell (suc m) e w = w
object_cell zero (suc e) w = envelope_object (w / 2 ^ 63) w
object_cell zero zero w = 0

-- one more than the record of a half: 0 where it links none
abbrev pub low_handle : (h w : ℕ) → ℕ
low_handle zero w = 0
low_handle (suc h) w = w % 2 ^ 32

abbrev pub high_handle : (h w : ℕ) → ℕ
high_handle zero w = 0
high_handle (suc h) w = w / 2 ^ 32

abbrev pub envelope_low : (top h w : ℕ) → ℕ
envelope_low zero h w = 0
envelope_low (suc t) h w = low_handle h w

abbrev pub low_cell : (marker envelope h w : ℕ) → ℕ
low_cell (suc m) e h w = 0
low_cell zero (suc e) h w = envelope_low (w / 2 ^ 63) h w
low_cell zero zero h w = low_handle h w

abbrev pub high_cell : (marker envelope h w : ℕ) → ℕ
high_cell (suc m) e h w = 0
high_cell zero (suc e) h w = first_of w + 1
high_cell zero zero h w = high_handle h w

-- the cell of a half, by whether it is the upper one
abbrev pub record_cell : (upper marker envelope h w : ℕ) → ℕ
record_cell zero m e h w = low_cell m e h w
record_cell (suc u) m e h w = high_cell m e h w

-- ---- how many links a word holds

-- 1 where a cell, or a bit, is not 0
abbrev pub filled : ℕ → ℕ
filled zero = 0
filled (suc n) = 1

-- in an envelope, by the top bit of its link: its own, and where its member stands in it, that of
-- a handle in the lower half
abbrev pub envelope_links : (top lower : ℕ) → ℕ
envelope_links zero h = 1
envelope_links (suc t) h = 1 + filled h

abbrev pub word_links : (marker envelope lower upper w : ℕ) → ℕ
word_links (suc m) e h k w = 1
word_links zero (suc e) h k w = envelope_links (w / 2 ^ 63) h
word_links zero zero h k w = filled h + filled k

-- ---- words that hold links alone

-- a handle's link is not 0
abbrev pub IsMarked : (h half : ℕ) → Type 0
IsMarked zero half = Unit {0}
IsMarked (suc h) half = 0 < half

-- an object's place is not 0, and in an envelope the lower half alone can hold a handle's link
abbrev pub EnvelopeSound : (top h w : ℕ) → Type 0
EnvelopeSound zero h w = 0 < place_of w
EnvelopeSound (suc t) h w = IsMarked h (w % 2 ^ 32)

abbrev pub IsSound : (marker envelope lower upper w : ℕ) → Type 0
IsSound (suc m) e h k w = (0 < w) × (w ≤ 2 ^ 24)
IsSound zero (suc e) h k w = EnvelopeSound (w / 2 ^ 63) h w
IsSound zero zero h k w = IsMarked h (w % 2 ^ 32) × IsMarked k (w / 2 ^ 32)
