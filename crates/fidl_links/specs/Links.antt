-- A message in whose bytes links stand, and what it is seen as.
use Rattle.std.specs.Prelude.{◌≡◌, ℕ, ◌+◌, ◌*◌, ◌/◌, ◌%◌, ◌^◌, ◌<◌, ◌≤◌, List, map, length, cond}
use Rattle.std.specs.Prelude.{nat_lt, slice_index}
use Rattle.std.specs.List.{range_with_len, sum_by}
use Rattle.std.specs.Int.{to_le_bytes, w64}
use Rattle.fidl_links.specs.Words.{word, words_of}
use Rattle.fidl_links.specs.Coding.{came_word, object_cell, record_cell, IsSound}
use Rattle.fidl_links.specs.Coding.{filled, word_links}
use Rattle.fidl_links.specs.Marks.{Marks, marker_bit, envelope_bit, handle_bit}

-- what a message with links is seen as: the message as it came; for each eight bytes where the
-- object of the marker or envelope there begins, 0 where none is linked; for each four one more
-- than the record of the handle there, 0 where none is linked. The second half of an envelope has
-- one more than the first record of its member
pub record Written : Type 0 where
  pub came : List ℕ
  pub objects : List ℕ
  pub records : List ℕ

-- no link stands over the byte at a place, by the objects of all words and the records of all halves
abbrev pub HasNoLink : (objects records : List ℕ) → (place : ℕ) → Type 0
HasNoLink objects records place = (slice_index objects (place / 8) ≡ 0)
    × (slice_index records (place / 4) ≡ 0)

-- of a message
abbrev pub IsFree : Written → (place : ℕ) → Type 0
IsFree m place = HasNoLink m.objects m.records place

-- nor over any byte from one place up to another
abbrev pub AreFree : Written → (from to : ℕ) → Type 0
AreFree m from to = (k : ℕ) → from ≤ k → k < to → IsFree m k

-- nor over the eight bytes from a multiple of eight on
abbrev pub IsFreeWord : Written → (place : ℕ) → Type 0
IsFreeWord m place = IsFree m place × IsFree m (place + 4)

-- how many places of the word with this number hold a link: one where its first half has a record,
-- and one where the word has an object or its second half a record. So a marker is one place, and
-- an envelope or a handle is one
abbrev pub places_at : Written → (i : ℕ) → ℕ
places_at m i =
    filled (slice_index m.records (2 * i))
    + filled (slice_index m.objects i + slice_index m.records (2 * i + 1))

-- how many places of a message hold a link
unfoldable pub places : Written → ℕ
places m = sum_by (places_at m) (range_with_len 0 (length m.objects))

-- the word with this number as it came, of the bytes that stand and the marks
abbrev pub came_at : List ℕ → Marks → (i : ℕ) → ℕ
came_at bytes m i =
    came_word (marker_bit m i) (envelope_bit m i) (handle_bit m (2 * i))
    (handle_bit m (2 * i + 1)) (word bytes i)

-- how many links it holds
abbrev pub links_at : List ℕ → Marks → (i : ℕ) → ℕ
links_at bytes m i =
    word_links (marker_bit m i) (envelope_bit m i) (handle_bit m (2 * i))
    (handle_bit m (2 * i + 1)) (word bytes i)

-- where its object begins
abbrev pub object_of : List ℕ → Marks → (i : ℕ) → ℕ
object_of bytes m i = object_cell (marker_bit m i) (envelope_bit m i) (word bytes i)

-- one more than the record of the half with this number
abbrev pub record_of : List ℕ → Marks → (j : ℕ) → ℕ
record_of bytes m j =
    record_cell (j % 2) (marker_bit m (j / 2)) (envelope_bit m (j / 2)) (handle_bit m j)
    (word bytes (j / 2))

-- a byte as it came: behind the last whole word it is the byte that stands
unfoldable pub came_byte : List ℕ → Marks → (k : ℕ) → ℕ
came_byte bytes m k =
    cond (nat_lt (k / 8) (words_of bytes))
    (slice_index (to_le_bytes w64 (came_at bytes m (k / 8))) (k % 8)) (slice_index bytes k)

-- what bytes with links are seen as
unfoldable pub written : List ℕ → Marks → Written
written bytes m =
    record {
      came = map (came_byte bytes m) (range_with_len 0 (length bytes));
      objects = map (object_of bytes m) (range_with_len 0 (words_of bytes));
      records = map (record_of bytes m) (range_with_len 0 (2 * words_of bytes));
    }

-- the word with this number has 64 bits, and where it is marked it holds a link
abbrev pub IsSoundAt : List ℕ → Marks → (i : ℕ) → Type 0
IsSoundAt bytes m i = (word bytes i < 2 ^ 64)
    × IsSound (marker_bit m i) (envelope_bit m i) (handle_bit m (2 * i))
    (handle_bit m (2 * i + 1)) (word bytes i)

abbrev pub AreSound : List ℕ → Marks → Type 0
AreSound bytes m = (i : ℕ) → i < words_of bytes → IsSoundAt bytes m i
