-- Links that are written at places: what is seen then.
use Rattle.std.proofs.Common.{◌≡◌, ◌≢◌, ℕ, ◌+◌, ◌-◌, ◌*◌, ◌/◌, ◌%◌, ◌^◌, ◌<◌, ◌≤◌, ◌⊎◌, inl, inr, List, length, slice_index, slice_range, slice_set, replicate, refl, sym, ap, subst, ◌∙◌, arith}
use Rattle.std.specs.Int.{to_le_bytes, from_le_bytes, w16, w32, w64}
use Rattle.std.proofs.lemmas.Nat.{from_le_bytes-to_le_bytes_4}
use Rattle.fidl_wire.specs.Encoding.{present}
use Rattle.fidl_wire.specs.Envelope.{bytes_below, handles_below, flags_at}
use Rattle.fidl_wire.specs.Field.{number_at}
use Rattle.fidl_wire.specs.Standing.{Stands}
use Rattle.fidl_links.specs.Coding.{out_of_line, inline, with_low, with_high}
use Rattle.fidl_links.specs.Links.{Written, IsFree, IsFreeWord}
use Rattle.fidl_links.specs.Marks.{Marks, marker_bit, envelope_bit, handle_bit}
use Rattle.fidl_links.specs.Words.{word, words_of, Put}
use Rattle.fidl_links.proofs.Linking.{Linkage, marker_linked, lower_linked, upper_linked, outside_linked, inside_linked}
use Rattle.fidl_links.proofs.Numbers.{number_64, number_32, small_32, ones_32, ones_64, word_at, word_is}
use Rattle.fidl_links.proofs.Parts.{part_alike, other_word}
use Rattle.fidl_links.proofs.Seen.{Seen, as_long, came_small, FreeCells, free_cells}

-- the numbers of an envelope, as its word
pub envelope_word : (m : List ℕ) (p : ℕ) → number_at w64 m p ≡ bytes_below m p + handles_below m p * 2 ^ 32 + flags_at m p * 2 ^ 48
envelope_word m p =
    let six : p + 4 + 2 ≡ p + 6 = omega arith in
    let upper = number_32 m (p + 4) in
    let flags = ap (number_at w16 m) six in
    omega (arith, number_64 m p, upper, flags)

module _ (b c : List ℕ) (m r : Marks) (p x : ℕ) (s : Written) (v : Seen b m s) (aligned : p % 8 ≡ 0) (room : p + 8 ≤ length s.came) (free : IsFreeWord s p) (put : Put b c (p / 8) x) (fits : x < 2 ^ 64) where
  within : p / 8 < words_of s.came
  within = omega (arith, aligned, room)

  cells : FreeCells s (p / 8)
  cells = free_cells s p aligned free

  word_came : word s.came (p / 8) ≡ number_at w64 s.came p
  word_came = sym (word_at s.came p aligned)

  pub marker_at : marker_bit r (p / 8) ≡ 1 → ((j : ℕ) → j ≢ p / 8 → marker_bit r j ≡ marker_bit m j) → ((j : ℕ) → envelope_bit r j ≡ envelope_bit m j) → ((j : ℕ) → handle_bit r j ≡ handle_bit m j)
      → 0 < x → x ≤ 2 ^ 24 → Stands s.came p present → Linkage c r s (slice_set s.objects (p / 8) x) s.records
  marker_at here elsewhere envelopes handles some few ones =
      marker_linked b c m r (p / 8) x s v within put fits here elsewhere envelopes handles some few (word_came ∙ ones_64 s.came p ones) cells.object cells.lower cells.upper

  module _ (here : envelope_bit r (p / 8) ≡ 1) (elsewhere : (j : ℕ) → j ≢ p / 8 → envelope_bit r j ≡ envelope_bit m j) (markers : ((j : ℕ) → marker_bit r j ≡ marker_bit m j)) (handles : ((j : ℕ) → handle_bit r j ≡ handle_bit m j)) where
    half : (n : ℕ) → slice_set s.records (2 * (p / 8) + 1) n ≡ slice_set s.records ((p + 4) / 4) n
    half n = let e : 2 * (p / 8) + 1 ≡ (p + 4) / 4 = omega (arith, aligned) in ap (λ j. slice_set s.records j n) e

    pub outside_at : (object count below first : ℕ) → x ≡ out_of_line object count below first → object % 8 ≡ 0 → 0 < object → object ≤ 2 ^ 24
        → bytes_below s.came p ≡ count → handles_below s.came p ≡ below → flags_at s.came p ≡ 0 → count % 8 ≡ 0 → count ≤ 2 ^ 24 → below < 2 ^ 7 → first < 2 ^ 7
        → Linkage c r s (slice_set s.objects (p / 8) object) (slice_set s.records ((p + 4) / 4) (first + 1))
    outside_at object count below first is o some few bytes number flags n long t f =
        let counts : word s.came (p / 8) ≡ count + below * 2 ^ 32 = omega (arith, word_came, envelope_word s.came p, bytes, number, flags) in
        subst (λ l. Linkage c r s (slice_set s.objects (p / 8) object) l) (half (first + 1))
        (outside_linked b c m r (p / 8) x s v within put fits here elsewhere markers handles object count below first is o some few n long t f counts cells.object cells.lower cells.upper)

    pub inside_at : (below first : ℕ) → x ≡ inline (word b (p / 8)) below first → handles_below s.came p ≡ below → flags_at s.came p ≡ 1 → below < 2 ^ 7 → first < 2 ^ 7
        → Linkage c r s s.objects (slice_set s.records ((p + 4) / 4) (first + 1))
    inside_at below first is number flags t f =
        let small = small_32 s.came p (λ k from to. came_small b m s v k (omega (arith, to, room, aligned, as_long b m s v))) in
        let counts : word s.came (p / 8) / 2 ^ 32 ≡ below + 2 ^ 16 = omega (arith, word_came, envelope_word s.came p, number, flags, small) in
        subst (λ l. Linkage c r s s.objects l) (half (first + 1))
        (inside_linked b c m r (p / 8) x s v within put fits here elsewhere markers handles below first is t f counts cells.object cells.lower cells.upper)

-- four bytes are written where a handle came
pub record Halved (b c : List ℕ) (m r : Marks) (s : Written) (p q : ℕ) : Type 0 where
  pub within : p / 8 < words_of s.came
  pub len : length c ≡ length b
  pub here : slice_range c p (p + 4) ≡ to_le_bytes w32 q
  pub before : (k : ℕ) → k < p → slice_index c k ≡ slice_index b k
  pub behind : (k : ℕ) → p + 4 ≤ k → slice_index c k ≡ slice_index b k
  pub some : 0 < q
  pub small : q < 2 ^ 32
  pub ones : Stands s.came p (replicate 4 255)
  pub free : IsFree s p
  pub mark : handle_bit r (p / 4) ≡ 1
  pub others : (k : ℕ) → k ≢ p / 4 → handle_bit r k ≡ handle_bit m k
  pub markers : ((j : ℕ) → marker_bit r j ≡ marker_bit m j)
  pub envelopes : ((j : ℕ) → envelope_bit r j ≡ envelope_bit m j)

module _ (b c : List ℕ) (m r : Marks) (s : Written) (v : Seen b m s) (octets : (k : ℕ) → slice_index b k < 256) (q : ℕ) where
  -- one half is another number, and the other half stays
  written_part : (p : ℕ) → Halved b c m r s p q → number_at w32 c p ≡ q
  written_part p h = ap (λ l. from_le_bytes w32 l) h.here ∙ from_le_bytes-to_le_bytes_4 q h.small

  same_part : (p n : ℕ) → Halved b c m r s p q → n + 4 ≤ length b → (n + 4 ≤ p) ⊎ (p + 4 ≤ n) → number_at w32 c n ≡ number_at w32 b n
  same_part p n h room side =
      ap (λ l. from_le_bytes w32 l) (part_alike c b n (n + 4) h.len room (λ k from to. elim side [ inl x ↦ h.before k (omega (arith, x, to)) | inr x ↦ h.behind k (omega (arith, x, from)) ]))

  other_part : (p i j : ℕ) → Halved b c m r s p q → p / 8 ≡ i → j ≢ i → 8 * j + 8 ≤ length b → p % 4 ≡ 0 → word c j ≡ word b j
  other_part p i j h at ne room aligned = other_word c b i j h.len room ne (λ k lt. h.before k (omega (arith, lt, at))) (λ k ge. h.behind k (omega (arith, ge, at, aligned)))

  low_put : (i : ℕ) → Halved b c m r s (8 * i) q → 8 * i + 8 ≤ length b → Put b c i (with_low (word b i) q)
  low_put i h room =
      let here = written_part (8 * i) h in
      let there = same_part (8 * i) (8 * i + 4) h (omega (arith, room)) (inr (omega arith)) in
      let small = small_32 b (8 * i) (λ k from to. octets k) in
      record {
        len = h.len;
        number = omega (arith, word_is c i, word_is b i, number_64 c (8 * i), number_64 b (8 * i), here, there, small);
        words = λ j ne fits. other_part (8 * i) i j h (omega arith) ne fits (omega arith);
        tail = λ k ge. h.behind k (omega (arith, ge));
      }

  high_put : (i : ℕ) → Halved b c m r s (8 * i + 4) q → 8 * i + 8 ≤ length b → Put b c i (with_high (word b i) q)
  high_put i h room =
      let here = written_part (8 * i + 4) h in
      let there = same_part (8 * i + 4) (8 * i) h (omega (arith, room)) (inl (omega arith)) in
      let small = small_32 b (8 * i) (λ k from to. octets k) in
      record {
        len = h.len;
        number = omega (arith, word_is c i, word_is b i, number_64 c (8 * i), number_64 b (8 * i), here, there, small);
        words = λ j ne fits. other_part (8 * i + 4) i j h (omega arith) ne fits (omega arith);
        tail = λ k ge. h.behind k (omega (arith, ge));
      }

  low_handle : (i : ℕ) → Halved b c m r s (8 * i) q → Linkage c r s s.objects (slice_set s.records (2 * i) q)
  low_handle i h =
      let at : 8 * i / 8 ≡ i = omega arith in
      let cell : 8 * i / 4 ≡ 2 * i = omega arith in
      let within : i < words_of s.came = omega (arith, h.within) in
      let put = low_put i h (omega (arith, h.within, as_long b m s v)) in
      let ones : word s.came i % 2 ^ 32 ≡ 2 ^ 32 - 1 = omega (arith, word_is s.came i, number_64 s.came (8 * i), ones_32 s.came (8 * i) h.ones) in
      lower_linked b c m r i (with_low (word b i) q) s v within put (omega (arith, h.small, (v.sound i (omega (arith, within, as_long b m s v))).0))
      (ap (handle_bit r) (sym cell) ∙ h.mark) (λ j ne. h.others j (λ e. ne (e ∙ cell))) h.markers h.envelopes q refl h.some h.small ones
      (ap (slice_index s.objects) (sym at) ∙ h.free.0) (ap (slice_index s.records) (sym cell) ∙ h.free.1)

  high_handle : (i : ℕ) → Halved b c m r s (8 * i + 4) q → Linkage c r s s.objects (slice_set s.records (2 * i + 1) q)
  high_handle i h =
      let at : (8 * i + 4) / 8 ≡ i = omega arith in
      let cell : (8 * i + 4) / 4 ≡ 2 * i + 1 = omega arith in
      let within : i < words_of s.came = omega (arith, h.within) in
      let put = high_put i h (omega (arith, h.within, as_long b m s v)) in
      let small = small_32 s.came (8 * i) (λ k from to. came_small b m s v k (omega (arith, to, within, as_long b m s v))) in
      let ones : word s.came i / 2 ^ 32 ≡ 2 ^ 32 - 1 = omega (arith, word_is s.came i, number_64 s.came (8 * i), ones_32 s.came (8 * i + 4) h.ones, small) in
      upper_linked b c m r i (with_high (word b i) q) s v within put (omega (arith, h.small)) (ap (handle_bit r) (sym cell) ∙ h.mark) (λ j ne. h.others j (λ e. ne (e ∙ cell)))
      h.markers h.envelopes q refl h.some h.small ones (ap (slice_index s.objects) (sym at) ∙ h.free.0) (ap (slice_index s.records) (sym cell) ∙ h.free.1)

  pub handle_at : (p : ℕ) → p % 4 ≡ 0 → Halved b c m r s p q → Linkage c r s s.objects (slice_set s.records (p / 4) q)
  handle_at p aligned h = elim (side p aligned) [
    | inl e ↦
        let cell : 2 * (p / 8) ≡ p / 4 = omega (arith, e) in
        let at : p ≡ 8 * (p / 8) = omega (arith, e) in
        subst (λ j. Linkage c r s s.objects (slice_set s.records j q)) cell (low_handle (p / 8) (subst (λ n. Halved b c m r s n q) at h))
    | inr e ↦
        let cell : 2 * (p / 8) + 1 ≡ p / 4 = omega (arith, e) in
        let at : p ≡ 8 * (p / 8) + 4 = omega (arith, e) in
        subst (λ j. Linkage c r s s.objects (slice_set s.records j q)) cell (high_handle (p / 8) (subst (λ n. Halved b c m r s n q) at h))
  ]
    where
      side : (p : ℕ) → p % 4 ≡ 0 → (p % 8 ≡ 0) ⊎ (p % 8 ≡ 4)
      side p aligned = grind (arith, aligned)
