-- A message that is seen with its links, and the cells of its words.
use Rattle.std.proofs.Common.{◌≡◌, ℕ, ◌+◌, ◌-◌, ◌*◌, ◌/◌, ◌%◌, ◌<◌, List, length, slice_index, sym, ap, subst, ◌∙◌, arith}
use Rattle.std.proofs.lemmas.List.FromFn.{length-map-range_with_len, get_or-map-range_with_len}
use Rattle.fidl_links.specs.Marks.{Marks, marker_bit, envelope_bit, handle_bit}
use Rattle.fidl_links.specs.Words.{word, words_of}
use Rattle.fidl_links.specs.Coding.{record_cell, low_cell, high_cell}
use Rattle.fidl_links.specs.Links.{Written, came_at, object_of, record_of, came_byte, written}
use Rattle.fidl_links.specs.Links.{IsFreeWord, AreSound}
use Rattle.std.specs.Int.{to_le_bytes, w64}
use Rattle.fidl_links.proofs.Numbers.{byte_small}
use Rattle.fidl_links.proofs.TakenOut.{byte_in}
use Rattle.fidl_links.proofs.Came.{word_came}

-- the cells of a word's halves
pub low_of : (b : List ℕ) (m : Marks) (i : ℕ) → record_of b m (2 * i) ≡ low_cell (marker_bit m i) (envelope_bit m i) (handle_bit m (2 * i)) (word b i)
low_of b m i =
    let half : 2 * i / 2 ≡ i = omega arith in
    let even : 2 * i % 2 ≡ 0 = omega arith in
    ap (λ n. record_cell n (marker_bit m (2 * i / 2)) (envelope_bit m (2 * i / 2)) (handle_bit m (2 * i)) (word b (2 * i / 2))) even
    ∙ ap (λ n. low_cell (marker_bit m n) (envelope_bit m n) (handle_bit m (2 * i)) (word b n)) half

pub high_of : (b : List ℕ) (m : Marks) (i : ℕ) → record_of b m (2 * i + 1) ≡ high_cell (marker_bit m i) (envelope_bit m i) (handle_bit m (2 * i + 1)) (word b i)
high_of b m i =
    let half : (2 * i + 1) / 2 ≡ i = omega arith in
    let odd : (2 * i + 1) % 2 ≡ 1 = omega arith in
    ap (λ n. record_cell n (marker_bit m ((2 * i + 1) / 2)) (envelope_bit m ((2 * i + 1) / 2)) (handle_bit m (2 * i + 1)) (word b ((2 * i + 1) / 2))) odd
    ∙ ap (λ n. high_cell (marker_bit m n) (envelope_bit m n) (handle_bit m (2 * i + 1)) (word b n)) half

-- there are as many cells as words, and twice as many of halves
pub objects_long : (b : List ℕ) (m : Marks) → length (written b m).objects ≡ words_of b
unfolding written
objects_long b m = length-map-range_with_len (object_of b m) 0 (words_of b)

pub records_long : (b : List ℕ) (m : Marks) → length (written b m).records ≡ 2 * words_of b
unfolding written
records_long b m = length-map-range_with_len (record_of b m) 0 (2 * words_of b)

-- a message is seen as s, with links that are sound
pub record Seen (b : List ℕ) (m : Marks) (s : Written) : Type 0 where
  pub is : written b m ≡ s
  pub sound : AreSound b m

module _ (b : List ℕ) (m : Marks) (s : Written) (v : Seen b m s) where
  pub as_long : length s.came ≡ length b
  unfolding written
  as_long = ap (λ (s : Written). length s.came) (sym v.is) ∙ length-map-range_with_len (came_byte b m) 0 (length b)

  pub inside_words : (i : ℕ) → i < words_of s.came → i < words_of b
  inside_words i h = omega (arith, h, as_long)

  pub came_is : (i : ℕ) → i < words_of b → word s.came i ≡ came_at b m i
  came_is i h = ap (λ (s : Written). word s.came i) (sym v.is) ∙ word_came b m i h (v.sound i h).0

  pub object_is : (i : ℕ) → i < words_of b → slice_index s.objects i ≡ object_of b m i
  unfolding written
  object_is i h = ap (λ (s : Written). slice_index s.objects i) (sym v.is) ∙ get_or-map-range_with_len (object_of b m) 0 (words_of b) i i 0 h (omega arith)

  pub record_is : (j : ℕ) → j < 2 * words_of b → slice_index s.records j ≡ record_of b m j
  unfolding written
  record_is j h = ap (λ (s : Written). slice_index s.records j) (sym v.is) ∙ get_or-map-range_with_len (record_of b m) 0 (2 * words_of b) j j 0 h (omega arith)

  pub low_is : (i : ℕ) → i < words_of b → slice_index s.records (2 * i) ≡ low_cell (marker_bit m i) (envelope_bit m i) (handle_bit m (2 * i)) (word b i)
  low_is i h = record_is (2 * i) (omega (arith, h)) ∙ low_of b m i

  pub high_is : (i : ℕ) → i < words_of b → slice_index s.records (2 * i + 1) ≡ high_cell (marker_bit m i) (envelope_bit m i) (handle_bit m (2 * i + 1)) (word b i)
  high_is i h = record_is (2 * i + 1) (omega (arith, h)) ∙ high_of b m i

  pub objects_count : length s.objects ≡ words_of b
  objects_count = ap (λ (s : Written). length s.objects) (sym v.is) ∙ objects_long b m

  pub records_count : length s.records ≡ 2 * words_of b
  records_count = ap (λ (s : Written). length s.records) (sym v.is) ∙ records_long b m

  -- a byte of a whole word, as it came
  pub came_byte_is : (k : ℕ) → k < length b → slice_index s.came k ≡ came_byte b m k
  unfolding written
  came_byte_is k below = ap (λ (s : Written). slice_index s.came k) (sym v.is) ∙ get_or-map-range_with_len (came_byte b m) 0 (length b) k k 0 below (omega arith)

  pub came_small : (k : ℕ) → k < 8 * words_of b → slice_index s.came k < 256
  came_small k below =
      let is : slice_index s.came k ≡ slice_index (to_le_bytes w64 (came_at b m (k / 8))) (k - 8 * (k / 8)) =
      came_byte_is k (omega (arith, below)) ∙ byte_in b m (k / 8) k (omega (arith, below)) (omega arith) (omega arith) in
      subst (λ n. n < 256) (sym is) (byte_small (came_at b m (k / 8)) (k - 8 * (k / 8)))

-- the cells of a free word
pub record FreeCells (s : Written) (i : ℕ) : Type 0 where
  pub object : slice_index s.objects i ≡ 0
  pub lower : slice_index s.records (2 * i) ≡ 0
  pub upper : slice_index s.records (2 * i + 1) ≡ 0

pub free_cells : (s : Written) (p : ℕ) → p % 8 ≡ 0 → IsFreeWord s p → FreeCells s (p / 8)
free_cells s p aligned free =
    let low : 2 * (p / 8) ≡ p / 4 = omega (arith, aligned) in
    let high : 2 * (p / 8) + 1 ≡ (p + 4) / 4 = omega (arith, aligned) in
    record {
      object = free.0.0;
      lower = ap (λ j. slice_index s.records j) low ∙ free.0.1;
      upper = ap (λ j. slice_index s.records j) high ∙ free.1.1;
    }
