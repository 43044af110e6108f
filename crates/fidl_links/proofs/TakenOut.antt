-- A message whose links are taken out word by word, and one in which no link stands yet.
use Rattle.std.proofs.Common.{◌≡◌, ℕ, zero, suc, ◌+◌, ◌-◌, ◌*◌, ◌/◌, ◌%◌, ◌^◌, ◌<◌, ◌≤◌, ◌⊎◌, inl, inr, nat_lt, cond, List, length, get_or, slice_index, slice_range, map, refl, sym, ap, subst, ◌∙◌, arith}
use Rattle.std.specs.List.{range_with_len}
use Rattle.std.specs.Int.{to_le_bytes, w64}
use Rattle.std.proofs.lemmas.Bool.{lt-ltb, le-ltb}
use Rattle.std.proofs.lemmas.Nat.{le_bytes_8}
use Rattle.std.proofs.lemmas.List.{same_lists, get_or_default, get_or_past}
use Rattle.std.proofs.lemmas.List.Edits.{get_or-between, length-between}
use Rattle.std.proofs.lemmas.List.FromFn.{length-map-range_with_len, get_or-map-range_with_len}
use Rattle.fidl_links.specs.Marks.{Marks, marker_bit, envelope_bit, handle_bit}
use Rattle.fidl_links.specs.Words.{word, words_of}
use Rattle.fidl_links.specs.Coding.{came_word, word_links, object_cell, record_cell, IsSound}
use Rattle.fidl_links.specs.Links.{came_at, links_at, object_of, record_of, came_byte, written}
use Rattle.fidl_links.specs.Links.{AreSound}
use Rattle.fidl_links.proofs.Parts.{word_alike, part_alike}
use Rattle.fidl_links.proofs.Steps.{IsFree, free_came}

-- a byte of a word, and one behind all words
pub byte_in : (b : List ℕ) (m : Marks) (i k : ℕ) → i < words_of b → 8 * i ≤ k → k < 8 * i + 8 → came_byte b m k ≡ slice_index (to_le_bytes w64 (came_at b m i)) (k - 8 * i)
unfolding came_byte
byte_in b m i k within from to =
    let at : k / 8 ≡ i = omega (arith, from, to) in
    let off : k % 8 ≡ k - 8 * i = omega (arith, from, to) in
    ap (λ j. cond (nat_lt j (words_of b)) (slice_index (to_le_bytes w64 (came_at b m j)) (k % 8)) (slice_index b k)) at
    ∙ ap (λ t. cond t (slice_index (to_le_bytes w64 (came_at b m i)) (k % 8)) (slice_index b k)) (lt-ltb i (words_of b) within)
    ∙ ap (λ j. slice_index (to_le_bytes w64 (came_at b m i)) j) off

pub byte_past : (b : List ℕ) (m : Marks) (k : ℕ) → 8 * words_of b ≤ k → came_byte b m k ≡ slice_index b k
unfolding came_byte
byte_past b m k past = ap (λ t. cond t (slice_index (to_le_bytes w64 (came_at b m (k / 8))) (k % 8)) (slice_index b k)) (le-ltb (k / 8) (words_of b) (omega (arith, past)))

-- the words from one up to another are as they came, and all else is as it stood
pub record Restored (b : List ℕ) (m : Marks) (from to : ℕ) (now : List ℕ) : Type 0 where
  pub len : length now ≡ length b
  pub came : (k : ℕ) → 8 * from ≤ k → k < 8 * to → slice_index now k ≡ came_byte b m k
  pub before : (k : ℕ) → k < 8 * from → slice_index now k ≡ slice_index b k
  pub behind : (k : ℕ) → 8 * to ≤ k → slice_index now k ≡ slice_index b k

pub none_restored : (b : List ℕ) (m : Marks) (i : ℕ) → Restored b m i i b
none_restored b m i = record { len = refl; came = λ k ge lt. absurd (omega (arith, ge, lt)); before = λ k lt. refl; behind = λ k ge. refl }

-- the word that was written is as it came
pub one_restored : (b : List ℕ) (m : Marks) (i : ℕ) (now : List ℕ) (came : ℕ) → i < words_of b → came ≡ came_at b m i → length now ≡ length b → slice_range now (8 * i) (8 * i + 8) ≡ to_le_bytes w64 came
    → ((k : ℕ) → k < 8 * i → slice_index now k ≡ slice_index b k) → ((k : ℕ) → 8 * i + 8 ≤ k → slice_index now k ≡ slice_index b k) → Restored b m i (i + 1) now
one_restored b m i now came within is len here before behind = record {
  len = len;
  came = λ k from to.
      let at : 8 * i + (k - 8 * i) ≡ k = omega (arith, from) in
      ap (λ n. get_or now n 0) (sym at)
      ∙ sym (get_or-between now (8 * i) (8 * i + 8) (k - 8 * i) 0 (omega (arith, from, to)))
      ∙ ap (λ l. get_or l (k - 8 * i) 0) here
      ∙ ap (λ n. slice_index (to_le_bytes w64 n) (k - 8 * i)) is
      ∙ sym (byte_in b m i k within from (omega (arith, to)));
  before = before;
  behind = λ k ge. behind k (omega (arith, ge));
}

module _ (b : List ℕ) (m : Marks) (from i : ℕ) (now : List ℕ) (r : Restored b m from i now) where
  -- the words behind are as they stood
  same_word : (j : ℕ) → i ≤ j → j < words_of b → word now j ≡ word b j
  same_word j le within = word_alike now b j (part_alike now b (8 * j) (8 * j + 8) r.len (omega (arith, within)) (λ k ge lt. r.behind k (omega (arith, ge, le))))

  pub same_came : (j : ℕ) → i ≤ j → j < words_of b → came_at now m j ≡ came_at b m j
  same_came j le within = ap (λ w. came_word (marker_bit m j) (envelope_bit m j) (handle_bit m (2 * j)) (handle_bit m (2 * j + 1)) w) (same_word j le within)

  pub same_links : (j : ℕ) → i ≤ j → j < words_of b → links_at now m j ≡ links_at b m j
  same_links j le within = ap (λ w. word_links (marker_bit m j) (envelope_bit m j) (handle_bit m (2 * j)) (handle_bit m (2 * j + 1)) w) (same_word j le within)

  split : (j k : ℕ) → k < 8 * j → (k < 8 * i) ⊎ ((8 * i ≤ k) × (k < 8 * j))
  split j k lt = grind (arith, lt)

  -- and then those up to another word are as they came
  pub restored_then : (j : ℕ) (new : List ℕ) → from ≤ i → i ≤ j → j ≤ words_of b → Restored now m i j new → Restored b m from j new
  restored_then j new first le within more = record {
    len = more.len ∙ r.len;
    came = λ k ge lt. elim (split j k lt) [
      | inl x ↦ more.before k x ∙ r.came k ge x
      | inr y ↦ more.came k y.0 y.1 ∙ in_word k y.0 y.1
    ];
    before = λ k lt. more.before k (omega (arith, lt, first)) ∙ r.before k lt;
    behind = λ k ge. more.behind k ge ∙ r.behind k (omega (arith, ge, le));
  }
    where
      in_word : (k : ℕ) → 8 * i ≤ k → k < 8 * j → came_byte now m k ≡ came_byte b m k
      in_word k ge lt =
          byte_in now m (k / 8) k (omega (arith, lt, within, r.len)) (omega arith) (omega arith)
          ∙ ap (λ n. slice_index (to_le_bytes w64 n) (k - 8 * (k / 8))) (same_came (k / 8) (omega (arith, ge)) (omega (arith, lt, within)))
          ∙ sym (byte_in b m (k / 8) k (omega (arith, lt, within)) (omega arith) (omega arith))

pub restored_all : (b : List ℕ) (m : Marks) (i : ℕ) (now : List ℕ) → Restored b m 0 i now → i ≡ words_of b → now ≡ (written b m).came
unfolding written
restored_all b m i now r all =
    let long : length (map (came_byte b m) (range_with_len 0 (length b))) ≡ length b = length-map-range_with_len (came_byte b m) 0 (length b) in
    same_lists _ _ (r.len ∙ sym long) (λ k d lt.
    let below : k < length b = omega (arith, lt, r.len) in
    get_or_default now k d 0 lt ∙ elim (split k) [ inl x ↦ r.came k (omega arith) x | inr y ↦ r.behind k y ∙ sym (byte_past b m k (omega (arith, y, all))) ]
    ∙ sym (get_or-map-range_with_len (came_byte b m) 0 (length b) k k d below (omega arith)))
  where
    split : (k : ℕ) → (k < 8 * i) ⊎ (8 * i ≤ k)
    split k = grind arith

-- ---- a message in which no link stands

octets_part : (b : List ℕ) (i : ℕ) → 8 * i + 8 ≤ length b → ((k : ℕ) → slice_index b k < 256) → (k : ℕ) → get_or (slice_range b (8 * i) (8 * i + 8)) k 0 < 256
octets_part b i room each k = elim (split k) [
  | inl x ↦ subst (λ n. n < 256) (sym (get_or-between b (8 * i) (8 * i + 8) k 0 (omega (arith, x)))) (each (8 * i + k))
  | inr y ↦ subst (λ n. n < 256) (sym (get_or_past (slice_range b (8 * i) (8 * i + 8)) k 0 (omega (arith, y, length-between b (8 * i) (8 * i + 8) room)))) (omega arith)
]
  where
    split : (k : ℕ) → (k < 8) ⊎ (8 ≤ k)
    split k = grind arith

pub word_bytes : (b : List ℕ) (i : ℕ) → 8 * i + 8 ≤ length b → ((k : ℕ) → slice_index b k < 256) → to_le_bytes w64 (word b i) ≡ slice_range b (8 * i) (8 * i + 8)
unfolding word
word_bytes b i room each = le_bytes_8 (slice_range b (8 * i) (8 * i + 8)) _ (length-between b (8 * i) (8 * i + 8) room ∙ omega arith) (octets_part b i room each) refl

pub word_fits : (b : List ℕ) (i : ℕ) → 8 * i + 8 ≤ length b → ((k : ℕ) → slice_index b k < 256) → word b i < 2 ^ 64
unfolding word
word_fits b i room each =
    let o = octets_part b i room each in
    omega (arith, o 0, o 1, o 2, o 3, o 4, o 5, o 6, o 7)

-- a byte of a word that is not marked came as it stands
free_word_byte : (b : List ℕ) (m : Marks) (octets : (k : ℕ) → slice_index b k < 256) (k : ℕ) → k < 8 * words_of b
    → IsFree (marker_bit m (k / 8)) (envelope_bit m (k / 8)) (handle_bit m (2 * (k / 8))) (handle_bit m (2 * (k / 8) + 1)) → came_byte b m k ≡ slice_index b k
free_word_byte b m octets k lt free =
    let i = k / 8 in
    let h : i < words_of b = omega (arith, lt) in
    let room : 8 * i + 8 ≤ length b = omega (arith, h) in
    let at : 8 * i + (k - 8 * i) ≡ k = omega arith in
    byte_in b m i k h (omega arith) (omega arith)
    ∙ ap (λ n. slice_index (to_le_bytes w64 n) (k - 8 * i)) (free_came _ _ _ _ (word b i) free)
    ∙ ap (λ l. get_or l (k - 8 * i) 0) (word_bytes b i room octets)
    ∙ get_or-between b (8 * i) (8 * i + 8) (k - 8 * i) 0 (omega arith)
    ∙ ap (λ n. get_or b n 0) at

-- words that are not marked are passed
pub restored_past : (b : List ℕ) (m : Marks) (octets : (k : ℕ) → slice_index b k < 256) (from i j : ℕ) (now : List ℕ) → Restored b m from i now → i ≤ j → j ≤ words_of b
    → ((q : ℕ) → i ≤ q → q < j → IsFree (marker_bit m q) (envelope_bit m q) (handle_bit m (2 * q)) (handle_bit m (2 * q + 1))) → Restored b m from j now
restored_past b m octets from i j now r le within free = record {
  len = r.len;
  came = λ k ge lt. elim (split k lt) [
    | inl x ↦ r.came k ge x
    | inr y ↦ r.behind k y.0 ∙ sym (free_word_byte b m octets k (omega (arith, lt, within)) (free (k / 8) (omega (arith, y.0)) (omega (arith, lt))))
  ];
  before = r.before;
  behind = λ k ge. r.behind k (omega (arith, ge, le));
}
  where
    split : (k : ℕ) → k < 8 * j → (k < 8 * i) ⊎ ((8 * i ≤ k) × (k < 8 * j))
    split k lt = grind (arith, lt)

module _ (b : List ℕ) (m : Marks) (octets : (k : ℕ) → slice_index b k < 256)
    (markers : (i : ℕ) → i < words_of b → marker_bit m i ≡ 0) (envelopes : (i : ℕ) → i < words_of b → envelope_bit m i ≡ 0) (handles : (j : ℕ) → j < 2 * words_of b → handle_bit m j ≡ 0) where
  pub clear_sound : AreSound b m
  clear_sound i h = (
    word_fits b i (omega (arith, h)) octets,
    subst (λ n. IsSound n (envelope_bit m i) (handle_bit m (2 * i)) (handle_bit m (2 * i + 1)) (word b i)) (sym (markers i h))
        (subst (λ n. IsSound 0 n (handle_bit m (2 * i)) (handle_bit m (2 * i + 1)) (word b i)) (sym (envelopes i h))
        (subst (λ n. IsSound 0 0 n (handle_bit m (2 * i + 1)) (word b i)) (sym (handles (2 * i) (omega (arith, h))))
        (subst (λ n. IsSound 0 0 0 n (word b i)) (sym (handles (2 * i + 1) (omega (arith, h)))) (tt, tt)))),
  )

  pub clear_came : (written b m).came ≡ b
  unfolding written
  clear_came =
      let long : length (map (came_byte b m) (range_with_len 0 (length b))) ≡ length b = length-map-range_with_len (came_byte b m) 0 (length b) in
      same_lists _ _ long (λ k d lt.
      let below : k < length b = omega (arith, lt, long) in
      get_or-map-range_with_len (came_byte b m) 0 (length b) k k d below (omega arith) ∙ elim (split k) [ inl x ↦ in_word k x | inr y ↦ byte_past b m k y ] ∙ get_or_default b k 0 d below)
    where
      split : (k : ℕ) → (k < 8 * words_of b) ⊎ (8 * words_of b ≤ k)
      split k = grind arith

      in_word : (k : ℕ) → k < 8 * words_of b → came_byte b m k ≡ slice_index b k
      in_word k lt =
          let i = k / 8 in
          let h : i < words_of b = omega (arith, lt) in
          free_word_byte b m octets k lt (record { marker = markers i h; envelope = envelopes i h; lower = handles (2 * i) (omega (arith, h)); upper = handles (2 * i + 1) (omega (arith, h)) })

  pub clear_objects : (i : ℕ) → slice_index (written b m).objects i ≡ 0
  unfolding written
  clear_objects i = elim (split i) [
    | inl x ↦ get_or-map-range_with_len (object_of b m) 0 (words_of b) i i 0 x (omega arith) ∙ ap (λ n. object_cell n (envelope_bit m i) (word b i)) (markers i x) ∙ ap (λ n. object_cell 0 n (word b i)) (envelopes i x)
    | inr y ↦ get_or_past (map (object_of b m) (range_with_len 0 (words_of b))) i 0 (omega (arith, y, length-map-range_with_len (object_of b m) 0 (words_of b)))
  ]
    where
      split : (i : ℕ) → (i < words_of b) ⊎ (words_of b ≤ i)
      split i = grind arith

  pub clear_records : (j : ℕ) → slice_index (written b m).records j ≡ 0
  unfolding written
  clear_records j = elim (split j) [
    | inl x ↦ get_or-map-range_with_len (record_of b m) 0 (2 * words_of b) j j 0 x (omega arith)
        ∙ ap (λ n. record_cell (j % 2) n (envelope_bit m (j / 2)) (handle_bit m j) (word b (j / 2))) (markers (j / 2) (omega (arith, x)))
        ∙ ap (λ n. record_cell (j % 2) 0 n (handle_bit m j) (word b (j / 2))) (envelopes (j / 2) (omega (arith, x)))
        ∙ ap (λ n. record_cell (j % 2) 0 0 n (word b (j / 2))) (handles j x)
        ∙ none (j % 2)
    | inr y ↦ get_or_past (map (record_of b m) (range_with_len 0 (2 * words_of b))) j 0 (omega (arith, y, length-map-range_with_len (record_of b m) 0 (2 * words_of b)))
  ]
    where
      split : (j : ℕ) → (j < 2 * words_of b) ⊎ (2 * words_of b ≤ j)
      split j = grind arith

      none : (u : ℕ) → record_cell u 0 0 0 (word b (j / 2)) ≡ 0
      none zero = refl
      none (suc u) = refl
