-- How many places of a message hold a link: counted by the maps, and by its cells.
use Rattle.std.proofs.Common.{◌≡◌, ℕ, zero, suc, ◌+◌, ◌-◌, ◌*◌, ◌/◌, ◌%◌, ◌^◌, ◌<◌, ◌≤◌, List, length, slice_index, sum_by, refl, sym, ap, ◌∙◌, arith}
use Rattle.std.specs.List.{range_with_len}
use Rattle.std.proofs.lemmas.List.Sums.{sum-map}
use Rattle.std.proofs.lemmas.List.FromFn.{sum_by-map-range_with_len_more}
use Rattle.fidl_links.specs.Marks.{Marks, marker_bit, envelope_bit, handle_bit}
use Rattle.fidl_links.specs.Words.{word, words_of}
use Rattle.fidl_links.specs.Coding.{envelope_object, envelope_low, first_of, object_cell, low_handle, high_handle, low_cell, high_cell, IsMarked, EnvelopeSound, IsSound, filled, envelope_links, word_links}
use Rattle.fidl_links.specs.Links.{Written, places_at, places, links_at, written, AreSound}
use Rattle.fidl_links.proofs.Seen.{Seen, object_is, low_is, high_is, objects_long}
use Rattle.fidl_links.proofs.Steps.{IsFree}
use Rattle.fidl_links.proofs.TakenOut.{Restored, same_links}

-- ---- a word

filled_one : (n : ℕ) → 0 < n → filled n ≡ 1
filled_one zero some = absurd (omega (arith, some))
filled_one (suc n) some = refl

low_filled : (h w : ℕ) → IsMarked h (w % 2 ^ 32) → filled (low_handle h w) ≡ filled h
low_filled zero w s = refl
low_filled (suc h) w s = filled_one (w % 2 ^ 32) s

high_filled : (h w : ℕ) → IsMarked h (w / 2 ^ 32) → filled (high_handle h w) ≡ filled h
high_filled zero w s = refl
high_filled (suc h) w s = filled_one (w / 2 ^ 32) s

-- the links of a word are the places of its cells
pub links_are_places : (m e h k w : ℕ) → IsSound m e h k w → word_links m e h k w ≡ filled (low_cell m e h w) + filled (object_cell m e w + high_cell m e k w)
links_are_places (suc m) e h k w s =
    let one : filled (object_cell (suc m) e w + high_cell (suc m) e k w) ≡ 1 = filled_one _ (omega (arith, s.0)) in
    omega (arith, one)
links_are_places zero (suc e) h k w s = go (w / 2 ^ 63) s
  where
    go : (t : ℕ) → EnvelopeSound t h w → envelope_links t h ≡ filled (envelope_low t h w) + filled (envelope_object t w + (first_of w + 1))
    go zero s =
        let one : filled (envelope_object 0 w + (first_of w + 1)) ≡ 1 = filled_one _ (omega arith) in
        omega (arith, one)
    go (suc t) s =
        let lower : filled (envelope_low (suc t) h w) ≡ filled h = low_filled h w s in
        let one : filled (envelope_object (suc t) w + (first_of w + 1)) ≡ 1 = filled_one _ (omega arith) in
        omega (arith, lower, one)
links_are_places zero zero h k w s =
    let a : filled (low_cell 0 0 h w) ≡ filled h = low_filled h w s.0 in
    let sum : object_cell 0 0 w + high_cell 0 0 k w ≡ high_handle k w = omega arith in
    let b : filled (object_cell 0 0 w + high_cell 0 0 k w) ≡ filled k = ap filled sum ∙ high_filled k w s.1 in
    omega (arith, a, b)

filled_small : (n : ℕ) → filled n ≤ 1
filled_small zero = omega arith
filled_small (suc n) = omega arith

-- ---- a message

pub links_at_are : (b : List ℕ) (m : Marks) → AreSound b m → (i : ℕ) → i < words_of b → links_at b m i ≡ places_at (written b m) i
links_at_are b m sound i h =
    let v : Seen b m (written b m) = record { is = refl; sound = sound } in
    links_are_places _ _ _ _ (word b i) (sound i h).1
    ∙ ap (λ n. filled n + filled (object_cell (marker_bit m i) (envelope_bit m i) (word b i) + high_cell (marker_bit m i) (envelope_bit m i) (handle_bit m (2 * i + 1)) (word b i))) (sym (low_is b m _ v i h))
    ∙ ap (λ n. filled (slice_index (written b m).records (2 * i)) + filled (n + high_cell (marker_bit m i) (envelope_bit m i) (handle_bit m (2 * i + 1)) (word b i))) (sym (object_is b m _ v i h))
    ∙ ap (λ n. filled (slice_index (written b m).records (2 * i)) + filled (slice_index (written b m).objects i + n)) (sym (high_is b m _ v i h))

-- how many places of the first words hold a link
abbrev pub places_before : Written → (n : ℕ) → ℕ
places_before s n = sum_by (places_at s) (range_with_len 0 n)

pub places_more : (s : Written) (n : ℕ) → places_before s (n + 1) ≡ places_before s n + places_at s n
places_more s n =
    let f = places_at s in
    sym (sum-map f (range_with_len 0 (n + 1))) ∙ sum_by-map-range_with_len_more (λ x. x) f 0 n n (omega arith) ∙ ap (λ x. x + f n) (sum-map f (range_with_len 0 n))

pub few_before : (s : Written) (n : ℕ) → places_before s n ≤ 2 * n
few_before s zero = omega arith
few_before s (suc n) =
    let next : suc n ≡ n + 1 = omega arith in
    let more : places_before s (suc n) ≡ places_before s n + places_at s n = ap (places_before s) next ∙ places_more s n in
    omega (arith, few_before s n, more, filled_small (slice_index s.records (2 * n)), filled_small (slice_index s.objects n + slice_index s.records (2 * n + 1)))

pub few_places : (s : Written) → places s ≤ 2 * length s.objects
unfolding places
few_places s = few_before s (length s.objects)

pub all_places : (b : List ℕ) (m : Marks) (n : ℕ) → n ≡ words_of b → places_before (written b m) n ≡ places (written b m)
unfolding places
all_places b m n all = ap (places_before (written b m)) (all ∙ sym (objects_long b m))

-- ---- sums over words

module _ (f : ℕ → ℕ) (a : ℕ) where
  pub sum_more : (n : ℕ) → sum_by f (range_with_len a (n + 1)) ≡ sum_by f (range_with_len a n) + f (a + n)
  sum_more n = sym (sum-map f (range_with_len a (n + 1))) ∙ sum_by-map-range_with_len_more (λ x. x) f a n (a + n) refl ∙ ap (λ x. x + f (a + n)) (sum-map f (range_with_len a n))

  -- by the word that comes next
  pub sum_next : (i : ℕ) → a ≤ i → sum_by f (range_with_len a (i + 1 - a)) ≡ sum_by f (range_with_len a (i - a)) + f i
  sum_next i le =
      let size : i + 1 - a ≡ i - a + 1 = omega (arith, le) in
      let at : a + (i - a) ≡ i = omega (arith, le) in
      ap (λ n. sum_by f (range_with_len a n)) size ∙ sum_more (i - a) ∙ ap (λ j. sum_by f (range_with_len a (i - a)) + f j) at

  pub sum_small : (n : ℕ) → ((k : ℕ) → k < n → f (a + k) ≤ 2) → sum_by f (range_with_len a n) ≤ 2 * n
  sum_small zero each = omega arith
  sum_small (suc n) each =
      let next : suc n ≡ n + 1 = omega arith in
      let more = ap (λ i. sum_by f (range_with_len a i)) next ∙ sum_more n in
      omega (arith, more, sum_small n (λ k lt. each k (omega (arith, lt))), each n (omega arith))

word_few : (m e h k w : ℕ) → word_links m e h k w ≤ 2
word_few (suc m) e h k w = omega arith
word_few zero (suc e) h k w = go (w / 2 ^ 63)
  where
    go : (t : ℕ) → envelope_links t h ≤ 2
    go zero = omega arith
    go (suc t) = omega (arith, filled_small h)
word_few zero zero h k w = omega (arith, filled_small h, filled_small k)

pub few_links_at : (b : List ℕ) (m : Marks) (i : ℕ) → links_at b m i ≤ 2
few_links_at b m i = word_few _ _ _ _ (word b i)

pub few_links : (b : List ℕ) (m : Marks) (a n : ℕ) → sum_by (links_at b m) (range_with_len a n) ≤ 2 * n
few_links b m a n = sum_small (links_at b m) a n (λ k lt. few_links_at b m (a + k))

module _ (b : List ℕ) (m : Marks) (sound : AreSound b m) (i : ℕ) where
  before_next : (n : ℕ) → places_before (written b m) (i + suc n) ≡ places_before (written b m) (i + n) + places_at (written b m) (i + n)
  before_next n = let next : i + suc n ≡ i + n + 1 = omega arith in ap (places_before (written b m)) next ∙ places_more (written b m) (i + n)

  -- the places of more words, by the links that are taken out of them
  places_up : (now : List ℕ) → Restored b m 0 i now → (n : ℕ) → i + n ≤ words_of b → places_before (written b m) (i + n) ≡ places_before (written b m) i + sum_by (links_at now m) (range_with_len i n)
  places_up now r zero le = let none : i + 0 ≡ i = omega arith in omega (arith, ap (places_before (written b m)) none)
  places_up now r (suc n) le =
      let next : suc n ≡ n + 1 = omega arith in
      let more = ap (λ n. sum_by (links_at now m) (range_with_len i n)) next ∙ sum_more (links_at now m) i n in
      let same = same_links b m 0 i now r (i + n) (omega arith) (omega (arith, le)) ∙ links_at_are b m sound (i + n) (omega (arith, le)) in
      omega (arith, before_next n, places_up now r n (omega (arith, le)), more, same)

  pub places_then : (now : List ℕ) → Restored b m 0 i now → (j : ℕ) → i ≤ j → j ≤ words_of b → places_before (written b m) j ≡ places_before (written b m) i + sum_by (links_at now m) (range_with_len i (j - i))
  places_then now r j from le =
      let at : i + (j - i) ≡ j = omega (arith, from) in
      ap (places_before (written b m)) (sym at) ∙ places_up now r (j - i) (omega (arith, from, le))

  -- words that are not marked hold none
  none_up : (n : ℕ) → i + n ≤ words_of b → ((k : ℕ) → k < n → links_at b m (i + k) ≡ 0) → places_before (written b m) (i + n) ≡ places_before (written b m) i
  none_up zero le none = let same : i + 0 ≡ i = omega arith in ap (places_before (written b m)) same
  none_up (suc n) le none =
      let zero_here = sym (links_at_are b m sound (i + n) (omega (arith, le))) ∙ none n (omega arith) in
      omega (arith, before_next n, none_up n (omega (arith, le)) (λ k lt. none k (omega (arith, lt))), zero_here)

  pub places_past : (j : ℕ) → i ≤ j → j ≤ words_of b → ((q : ℕ) → i ≤ q → q < j → IsFree (marker_bit m q) (envelope_bit m q) (handle_bit m (2 * q)) (handle_bit m (2 * q + 1)))
      → places_before (written b m) j ≡ places_before (written b m) i
  places_past j from le free =
      let at : i + (j - i) ≡ j = omega (arith, from) in
      ap (places_before (written b m)) (sym at)
      ∙ none_up (j - i) (omega (arith, from, le)) (λ k lt. free_links _ _ _ _ (word b (i + k)) (free (i + k) (omega arith) (omega (arith, lt, from))))
    where
      free_links : (m e h k w : ℕ) → IsFree m e h k → word_links m e h k w ≡ 0
      free_links zero zero zero zero w f = refl
      free_links (suc m) e h k w f = absurd (omega (arith, f.marker))
      free_links zero (suc e) h k w f = absurd (omega (arith, f.envelope))
      free_links zero zero (suc h) k w f = absurd (omega (arith, f.lower))
      free_links zero zero zero (suc k) w f = absurd (omega (arith, f.upper))
