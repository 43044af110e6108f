-- What is seen of a message after one of its words was written.
use Rattle.std.proofs.Common.{◌≡◌, ◌≢◌, ℕ, ◌+◌, ◌*◌, ◌/◌, ◌%◌, ◌^◌, ◌<◌, ◌≤◌, inl, inr, Bool, true, false, nat_lt, cond, List, length, get_or, slice_index, slice_set, slice_range, map, refl, sym, ap, subst, ◌∙◌, arith, get_or-set_same, get_or-set_other, length-set}
use Rattle.std.specs.List.{range_with_len}
use Rattle.std.specs.Int.{to_le_bytes, w64}
use Rattle.std.proofs.lemmas.Bool.{cases_eq, lt-ltb}
use Rattle.std.proofs.lemmas.List.{same_lists, get_or_default}
use Rattle.std.proofs.lemmas.List.Edits.{get_or-between, length-between}
use Rattle.std.proofs.lemmas.List.FromFn.{length-map-range_with_len, get_or-map-range_with_len}
use Rattle.fidl_links.specs.Marks.{Marks, marker_bit, envelope_bit, handle_bit}
use Rattle.fidl_links.specs.Words.{word, words_of}
use Rattle.fidl_links.specs.Coding.{came_word, object_cell, record_cell}
use Rattle.fidl_links.proofs.Parts.{number_there}
use Rattle.fidl_links.proofs.Steps.{came_fits}
use Rattle.fidl_links.specs.Links.{came_at, object_of, record_of, came_byte, written}

-- lists made from functions that are alike
pub map_alike : (f g : ℕ → ℕ) (n : ℕ) → ((k : ℕ) → k < n → f k ≡ g k) → map f (range_with_len 0 n) ≡ map g (range_with_len 0 n)
map_alike f g n each =
    let one = length-map-range_with_len f 0 n in
    let two = length-map-range_with_len g 0 n in
    same_lists _ _ (one ∙ sym two) (λ k d lt.
    let below : k < n = omega (arith, lt, one) in
    get_or-map-range_with_len f 0 n k k d below (omega arith) ∙ each k below ∙ sym (get_or-map-range_with_len g 0 n k k d below (omega arith)))

-- the same where they differ at one place
pub map_set : (f g : ℕ → ℕ) (n i v : ℕ) → i < n → f i ≡ v → ((k : ℕ) → k < n → k ≢ i → f k ≡ g k) → map f (range_with_len 0 n) ≡ slice_set (map g (range_with_len 0 n)) i v
map_set f g n i v within here each =
    let gs = map g (range_with_len 0 n) in
    let one = length-map-range_with_len f 0 n in
    let two : length gs ≡ n = length-map-range_with_len g 0 n in
    same_lists _ _ (one ∙ sym (length-set gs i v ∙ two)) (λ k d lt.
    let below : k < n = omega (arith, lt, one) in
    get_or-map-range_with_len f 0 n k k d below (omega arith) ∙ elim (cases_eq k i) [
      | inl e ↦ ap f e ∙ here ∙ sym (ap (λ j. get_or (slice_set gs i v) j d) e ∙ get_or-set_same gs i v d (omega (arith, within, two)))
      | inr ne ↦ each k below ne ∙ sym (get_or-set_other gs i k v d ne ∙ get_or-map-range_with_len g 0 n k k d below (omega arith))
    ])

-- two messages are alike but for one word
pub record Elsewhere (b c : List ℕ) (m r : Marks) (i : ℕ) : Type 0 where
  pub len : length c ≡ length b
  pub words : (j : ℕ) → j ≢ i → j < words_of b → word c j ≡ word b j
  pub markers : (j : ℕ) → j ≢ i → marker_bit r j ≡ marker_bit m j
  pub envelopes : (j : ℕ) → j ≢ i → envelope_bit r j ≡ envelope_bit m j
  pub handles : (j : ℕ) → j / 2 ≢ i → handle_bit r j ≡ handle_bit m j
  pub tail : (k : ℕ) → 8 * words_of b ≤ k → slice_index c k ≡ slice_index b k

pub five : (f : ℕ → ℕ → ℕ → ℕ → ℕ → ℕ) {a b c d e p q r s t : ℕ} → a ≡ p → b ≡ q → c ≡ r → d ≡ s → e ≡ t → f a b c d e ≡ f p q r s t
five f {a = a} {b = b} {c = c} {d = d} {e = e} {p = p} {q = q} {r = r} {s = s} {t = t} x y z u v =
    ap (λ n. f n b c d e) x ∙ ap (λ n. f p n c d e) y ∙ ap (λ n. f p q n d e) z ∙ ap (λ n. f p q r n e) u ∙ ap (λ n. f p q r s n) v

pub four : (f : ℕ → ℕ → ℕ → ℕ → ℕ) {a b c d p q r s : ℕ} → a ≡ p → b ≡ q → c ≡ r → d ≡ s → f a b c d ≡ f p q r s
four f {a = a} {b = b} {c = c} {d = d} {p = p} {q = q} {r = r} {s = s} x y z u =
    ap (λ n. f n b c d) x ∙ ap (λ n. f p n c d) y ∙ ap (λ n. f p q n d) z ∙ ap (λ n. f p q r n) u

pub three : (f : ℕ → ℕ → ℕ → ℕ) {a b c p q r : ℕ} → a ≡ p → b ≡ q → c ≡ r → f a b c ≡ f p q r
three f {a = a} {b = b} {c = c} {p = p} {q = q} {r = r} x y z =
    ap (λ n. f n b c) x ∙ ap (λ n. f p n c) y ∙ ap (λ n. f p q n) z

module _ (b c : List ℕ) (m r : Marks) (i : ℕ) (e : Elsewhere b c m r i) (within : i < words_of b) where
  same_words : words_of c ≡ words_of b
  same_words = ap (λ n. n / 8) e.len

  came_other : (j : ℕ) → j < words_of b → j ≢ i → came_at c r j ≡ came_at b m j
  came_other j lt ne = five came_word (e.markers j ne) (e.envelopes j ne) (e.handles (2 * j) (λ x. ne (omega (arith, x)))) (e.handles (2 * j + 1) (λ x. ne (omega (arith, x)))) (e.words j ne lt)

  came_each : came_at c r i ≡ came_at b m i → (j : ℕ) → j < words_of b → came_at c r j ≡ came_at b m j
  came_each here j lt = elim (cases_eq j i) [ inl x ↦ subst (λ n. came_at c r n ≡ came_at b m n) (sym x) here | inr ne ↦ came_other j lt ne ]

  byte_alike : came_at c r i ≡ came_at b m i → (k : ℕ) → came_byte c r k ≡ came_byte b m k
  unfolding came_byte
  byte_alike here k = by_test (nat_lt (k / 8) (words_of b)) refl
    where
      by_test : (t : Bool) → nat_lt (k / 8) (words_of b) ≡ t → came_byte c r k ≡ came_byte b m k
      by_test true is =
          let lt : k / 8 < words_of b = grind (arith, is) in
          ap (λ n. cond (nat_lt (k / 8) n) (slice_index (to_le_bytes w64 (came_at c r (k / 8))) (k % 8)) (slice_index c k)) same_words
          ∙ ap (λ t. cond t (slice_index (to_le_bytes w64 (came_at c r (k / 8))) (k % 8)) (slice_index c k)) is
          ∙ ap (λ w. slice_index (to_le_bytes w64 w) (k % 8)) (came_each here (k / 8) lt)
          ∙ sym (ap (λ t. cond t (slice_index (to_le_bytes w64 (came_at b m (k / 8))) (k % 8)) (slice_index b k)) is)
      by_test false is =
          let ge : words_of b ≤ k / 8 = grind (arith, is) in
          ap (λ n. cond (nat_lt (k / 8) n) (slice_index (to_le_bytes w64 (came_at c r (k / 8))) (k % 8)) (slice_index c k)) same_words
          ∙ ap (λ t. cond t (slice_index (to_le_bytes w64 (came_at c r (k / 8))) (k % 8)) (slice_index c k)) is
          ∙ e.tail k (omega (arith, ge))
          ∙ sym (ap (λ t. cond t (slice_index (to_le_bytes w64 (came_at b m (k / 8))) (k % 8)) (slice_index b k)) is)

  pub came_same : came_at c r i ≡ came_at b m i → (written c r).came ≡ (written b m).came
  unfolding written
  came_same here = ap (λ n. map (came_byte c r) (range_with_len 0 n)) e.len ∙ map_alike (came_byte c r) (came_byte b m) (length b) (λ k lt. byte_alike here k)

  object_other : (j : ℕ) → j < words_of b → j ≢ i → object_of c r j ≡ object_of b m j
  object_other j lt ne = three object_cell (e.markers j ne) (e.envelopes j ne) (e.words j ne lt)

  pub objects_same : object_of c r i ≡ object_of b m i → (written c r).objects ≡ (written b m).objects
  unfolding written
  objects_same here = ap (λ n. map (object_of c r) (range_with_len 0 n)) same_words
      ∙ map_alike (object_of c r) (object_of b m) (words_of b) (λ j lt. elim (cases_eq j i) [ inl x ↦ subst (λ n. object_of c r n ≡ object_of b m n) (sym x) here | inr ne ↦ object_other j lt ne ])

  pub objects_set : (v : ℕ) → object_of c r i ≡ v → (written c r).objects ≡ slice_set (written b m).objects i v
  unfolding written
  objects_set v here = ap (λ n. map (object_of c r) (range_with_len 0 n)) same_words ∙ map_set (object_of c r) (object_of b m) (words_of b) i v within here object_other

  record_other : (j : ℕ) → j < 2 * words_of b → j / 2 ≢ i → record_of c r j ≡ record_of b m j
  record_other j lt ne = four (record_cell (j % 2)) (e.markers (j / 2) ne) (e.envelopes (j / 2) ne) (e.handles j ne) (e.words (j / 2) ne (omega (arith, lt)))

  pub records_same : ((j : ℕ) → j / 2 ≡ i → record_of c r j ≡ record_of b m j) → (written c r).records ≡ (written b m).records
  unfolding written
  records_same here = ap (λ n. map (record_of c r) (range_with_len 0 (2 * n))) same_words
      ∙ map_alike (record_of c r) (record_of b m) (2 * words_of b) (λ j lt. elim (cases_eq (j / 2) i) [ inl x ↦ here j x | inr ne ↦ record_other j lt ne ])

  pub records_set : (h v : ℕ) → h / 2 ≡ i → record_of c r h ≡ v → ((j : ℕ) → j / 2 ≡ i → j ≢ h → record_of c r j ≡ record_of b m j) → (written c r).records ≡ slice_set (written b m).records h v
  unfolding written
  records_set h v half here other = ap (λ n. map (record_of c r) (range_with_len 0 (2 * n))) same_words
      ∙ map_set (record_of c r) (record_of b m) (2 * words_of b) h v (omega (arith, half, within)) here (λ j lt ne. elim (cases_eq (j / 2) i) [ inl x ↦ other j x ne | inr far ↦ record_other j lt far ])

-- the bytes of a word, as they came
pub came_part : (b : List ℕ) (m : Marks) (i : ℕ) → i < words_of b → slice_range (written b m).came (8 * i) (8 * i + 8) ≡ to_le_bytes w64 (came_at b m i)
unfolding written came_byte
came_part b m i within =
    let xs : List ℕ = map (came_byte b m) (range_with_len 0 (length b)) in
    let long : length xs ≡ length b = length-map-range_with_len (came_byte b m) 0 (length b) in
    let room : 8 * i + 8 ≤ length xs = omega (arith, long, within) in
    let size = length-between xs (8 * i) (8 * i + 8) room in
    same_lists _ _ (size ∙ omega arith) (λ k d lt.
    let below : k < 8 = omega (arith, lt, size) in
    get_or-between xs (8 * i) (8 * i + 8) k d (omega (arith, below))
    ∙ get_or-map-range_with_len (came_byte b m) 0 (length b) (8 * i + k) (8 * i + k) d (omega (arith, below, within)) (omega arith)
    ∙ in_word k below
    ∙ get_or_default (to_le_bytes w64 (came_at b m i)) k 0 d below)
  where
    in_word : (k : ℕ) → k < 8 → came_byte b m (8 * i + k) ≡ slice_index (to_le_bytes w64 (came_at b m i)) k
    in_word k below =
        let at : (8 * i + k) / 8 ≡ i = omega (arith, below) in
        let off : (8 * i + k) % 8 ≡ k = omega (arith, below) in
        ap (λ j. cond (nat_lt j (words_of b)) (slice_index (to_le_bytes w64 (came_at b m j)) ((8 * i + k) % 8)) (slice_index b (8 * i + k))) at
        ∙ ap (λ t. cond t (slice_index (to_le_bytes w64 (came_at b m i)) ((8 * i + k) % 8)) (slice_index b (8 * i + k))) (lt-ltb i (words_of b) within)
        ∙ ap (λ j. slice_index (to_le_bytes w64 (came_at b m i)) j) off

pub word_came : (b : List ℕ) (m : Marks) (i : ℕ) → i < words_of b → word b i < 2 ^ 64 → word (written b m).came i ≡ came_at b m i
word_came b m i within fits = number_there (written b m).came i (came_at b m i) (came_part b m i within) (came_fits _ _ _ _ (word b i) fits)
