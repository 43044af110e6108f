-- Bytes over which no link stands.
use Rattle.std.proofs.Common.{◌≡◌, ℕ, zero, suc, ◌+◌, ◌-◌, ◌*◌, ◌/◌, ◌%◌, ◌^◌, ◌<◌, ◌≤◌, ◌⊎◌, inl, inr, List, length, get_or, slice_index, slice_range, sym, ap, subst, ◌∙◌, arith}
use Rattle.std.specs.Int.{Width, byte_len, to_le_bytes, from_le_bytes, w16, w32, w64}
use Rattle.std.proofs.lemmas.List.Edits.{get_or-between}
use Rattle.fidl_wire.specs.declared.marker.Presence.{Presence}
use Rattle.fidl_wire.specs.Field.{number_at}
use Rattle.fidl_wire.specs.Marker.{Says}
use Rattle.fidl_links.specs.Coding.{envelope_came, came_word}
use Rattle.fidl_links.specs.Links.{Written, IsFree, AreFree, IsFreeWord, came_at}
use Rattle.fidl_links.specs.Marks.{Marks, handle_bit}
use Rattle.fidl_links.specs.Words.{word, words_of}
use Rattle.fidl_links.proofs.Free.{side, free_in, agreed_part, agreed_marker}
use Rattle.fidl_links.proofs.Numbers.{low_bytes, high_bytes}
use Rattle.fidl_links.proofs.Seen.{Seen, as_long, object_is, low_is, high_is, came_byte_is}
use Rattle.fidl_links.proofs.Steps.{low_is_free, high_is_free}
use Rattle.fidl_links.proofs.TakenOut.{byte_in, byte_past, word_bytes}

-- a half without a link stands as it came
low_came : (m e h k w : ℕ) → m ≡ 0 → h ≡ 0 → (e ≡ 0) ⊎ ((0 < e) × (0 < w / 2 ^ 63)) → came_word m e h k w % 2 ^ 32 ≡ w % 2 ^ 32
low_came (suc m) e h k w a b c = absurd (omega (arith, a))
low_came zero zero zero zero w a b c = omega arith
low_came zero zero zero (suc k) w a b c = omega arith
low_came zero (suc e) zero k w a b (inl c) = absurd (omega (arith, c))
low_came zero (suc e) zero k w a b (inr c) = go (w / 2 ^ 63) c.1
  where
    go : (t : ℕ) → 0 < t → envelope_came t 0 w % 2 ^ 32 ≡ w % 2 ^ 32
    go zero some = absurd (omega (arith, some))
    go (suc t) some = omega arith
low_came zero e (suc h) k w a b c = absurd (omega (arith, b))

high_came : (m e h k w : ℕ) → m ≡ 0 → e ≡ 0 → k ≡ 0 → came_word m e h k w / 2 ^ 32 ≡ w / 2 ^ 32
high_came (suc m) e h k w a b c = absurd (omega (arith, a))
high_came zero (suc e) h k w a b c = absurd (omega (arith, b))
high_came zero zero h (suc k) w a b c = absurd (omega (arith, c))
high_came zero zero zero zero w a b c = omega arith
high_came zero zero (suc h) zero w a b c = omega arith

module _ (b : List ℕ) (m : Marks) (s : Written) (v : Seen b m s) (octets : (k : ℕ) → slice_index b k < 256) where
  -- a byte of a word that has it in common with the word that came
  from_word : (k : ℕ) → k < 8 * words_of b → slice_index (to_le_bytes w64 (came_at b m (k / 8))) (k - 8 * (k / 8)) ≡ slice_index (to_le_bytes w64 (word b (k / 8))) (k - 8 * (k / 8)) → slice_index b k ≡ slice_index s.came k
  from_word k lt alike =
      let i = k / 8 in
      let room : 8 * i + 8 ≤ length b = omega (arith, lt) in
      let at : 8 * i + (k - 8 * i) ≡ k = omega arith in
      sym (came_byte_is b m s v k (omega (arith, lt))
      ∙ byte_in b m i k (omega (arith, lt)) (omega arith) (omega arith)
      ∙ alike
      ∙ ap (λ l. get_or l (k - 8 * i) 0) (word_bytes b i room octets)
      ∙ get_or-between b (8 * i) (8 * i + 8) (k - 8 * i) 0 (omega arith)
      ∙ ap (λ n. get_or b n 0) at)

  low_byte : (k : ℕ) → k < 8 * words_of b → k % 8 < 4 → IsFree s k → slice_index b k ≡ slice_index s.came k
  low_byte k lt half free =
      let i = k / 8 in
      let h : i < words_of b = omega (arith, lt) in
      let cell : 2 * i ≡ k / 4 = omega (arith, half) in
      let none = low_is_free _ _ _ (handle_bit m (2 * i + 1)) (word b i) (v.sound i h).1 (sym (object_is b m s v i h) ∙ free.0) (sym (low_is b m s v i h) ∙ ap (λ j. slice_index s.records j) cell ∙ free.1) in
      from_word k lt (low_bytes _ _ (k - 8 * i) (omega (arith, half)) (low_came _ _ _ (handle_bit m (2 * i + 1)) (word b i) none.0 none.1 none.2))

  high_byte : (k : ℕ) → k < 8 * words_of b → 4 ≤ k % 8 → IsFree s k → slice_index b k ≡ slice_index s.came k
  high_byte k lt half free =
      let i = k / 8 in
      let h : i < words_of b = omega (arith, lt) in
      let cell : 2 * i + 1 ≡ k / 4 = omega (arith, half) in
      let none = high_is_free _ _ (handle_bit m (2 * i)) _ (word b i) (v.sound i h).1 (sym (object_is b m s v i h) ∙ free.0) (sym (high_is b m s v i h) ∙ ap (λ j. slice_index s.records j) cell ∙ free.1) in
      let at : 4 + (k - 8 * i - 4) ≡ k - 8 * i = omega (arith, half) in
      let alike = high_bytes (came_at b m i) (word b i) (k - 8 * i - 4) (omega (arith, half)) (high_came _ _ (handle_bit m (2 * i)) _ (word b i) none.0 none.1 none.2) in
      from_word k lt (subst (λ j. slice_index (to_le_bytes w64 (came_at b m i)) j ≡ slice_index (to_le_bytes w64 (word b i)) j) at alike)

  pub free_byte : (k : ℕ) → k < length s.came → IsFree s k → slice_index b k ≡ slice_index s.came k
  free_byte k below free =
      let inside : k < length b = omega (arith, below, as_long b m s v) in
      elim (split k) [
        | inl x ↦ elim (side k) [ inl y ↦ low_byte k x y free | inr y ↦ high_byte k x y free ]
        | inr x ↦ sym (came_byte_is b m s v k inside ∙ byte_past b m k x)
      ]
    where
      split : (k : ℕ) → (k < 8 * words_of b) ⊎ (8 * words_of b ≤ k)
      split k = grind arith

  -- parts, numbers and markers over which no link stands, as they came
  pub same_part : (p q : ℕ) → q ≤ length s.came → AreFree s p q → slice_range b p q ≡ slice_range s.came p q
  same_part = agreed_part s b (sym (as_long b m s v)) free_byte

  pub same_number : (w : Width) (p q at : ℕ) → q ≤ length s.came → AreFree s p q → p ≤ at → at + byte_len w ≤ q → number_at w b at ≡ number_at w s.came at
  same_number w p q at room free from to =
      ap (λ l. from_le_bytes w l) (same_part at (at + byte_len w) (omega (arith, room, to)) (λ k a z. free k (omega (arith, from, a)) (omega (arith, to, z))))

  pub same_marker : (p n : ℕ) (r : Presence) → p + n ≤ length s.came → AreFree s p (p + n) → Says b p n r → Says s.came p n r
  same_marker p n r room free =
      agreed_marker b s.came p n (sym (as_long b m s v)) (λ k from to. free_byte k (omega (arith, to, room)) (free k from to)) r

  -- numbers that stand in a free word
  module _ (p : ℕ) (aligned : p % 8 ≡ 0) (room : p + 8 ≤ length s.came) (free : IsFreeWord s p) where
    pub same_16 : (q : ℕ) → p ≤ q → q + 2 ≤ p + 8 → number_at w16 b q ≡ number_at w16 s.came q
    same_16 q = same_number w16 p (p + 8) q room (free_in s p aligned free)

    pub same_32 : (q : ℕ) → p ≤ q → q + 4 ≤ p + 8 → number_at w32 b q ≡ number_at w32 s.came q
    same_32 q = same_number w32 p (p + 8) q room (free_in s p aligned free)
