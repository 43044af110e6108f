-- Links that are read at places.
use Rattle.std.proofs.Common.{◌≡◌, ℕ, ◌+◌, ◌-◌, ◌*◌, ◌/◌, ◌%◌, ◌^◌, ◌<◌, ◌≤◌, ◌⊎◌, inl, inr, List, length, slice_index, replicate, sym, ap, subst, ◌∙◌, arith}
use Rattle.std.proofs.lemmas.Bool.{cases_lt}
use Rattle.std.proofs.Math.ListN.{get_or-eq_default}
use Rattle.std.specs.Int.{w32, w64}
use Rattle.fidl_wire.specs.Encoding.{present}
use Rattle.fidl_wire.specs.Field.{number_at}
use Rattle.fidl_wire.specs.Standing.{Stands}
use Rattle.fidl_links.specs.Links.{Written}
use Rattle.fidl_links.specs.Marks.{Marks}
use Rattle.fidl_links.specs.Words.{word, words_of}
use Rattle.fidl_links.proofs.Numbers.{number_64, small_32, ones_32, ones_64, ones_stand, both_stand, word_at, word_is}
use Rattle.fidl_links.proofs.ReadBack.{reads_marker, reads_low, reads_high, reads_first, reads_object}
use Rattle.fidl_links.proofs.Seen.{Seen, as_long, came_small, records_count}

module _ (b : List ℕ) (m : Marks) (s : Written) (v : Seen b m s) (p : ℕ) (aligned : p % 8 ≡ 0) (room : p + 8 ≤ length s.came) where
  within : p / 8 < words_of s.came
  within = omega (arith, aligned, room)

  small : (k : ℕ) → p ≤ k → k < p + 8 → slice_index s.came k < 256
  small k from to = came_small b m s v k (omega (arith, to, room, aligned, as_long b m s v))

  pub marker_read_at : Stands s.came p present → 0 < slice_index s.objects (p / 8) → number_at w64 b p ≡ slice_index s.objects (p / 8)
  marker_read_at ones some =
      word_at b p aligned ∙ reads_marker b m s v (p / 8) within (sym (word_at s.came p aligned) ∙ ones_64 s.came p ones) some

  pub object_read_at : (Stands s.came p present → ⊥) → 0 < slice_index s.objects (p / 8) → number_at w64 b p % 2 ^ 24 * 8 ≡ slice_index s.objects (p / 8)
  object_read_at other some =
      ap (λ n. n % 2 ^ 24 * 8) (word_at b p aligned)
      ∙ reads_object b m s v (p / 8) within (λ e. other (both_stand s.came p room small (word_at s.came p aligned ∙ e))) some

  pub first_read_at : (Stands s.came (p + 4) (replicate 4 255) → ⊥) → 0 < slice_index s.records ((p + 4) / 4) → number_at w64 b p / 2 ^ 55 % 2 ^ 7 ≡ slice_index s.records ((p + 4) / 4) - 1
  first_read_at other some =
      let cell : 2 * (p / 8) + 1 ≡ (p + 4) / 4 = omega (arith, aligned) in
      let same = ap (slice_index s.records) cell in
      let low = small_32 s.came p (λ k from to. small k from (omega (arith, to))) in
      let is_other : word s.came (p / 8) / 2 ^ 32 ≡ 2 ^ 32 - 1 → ⊥ = λ e. other (ones_stand s.came (p + 4) (omega (arith, room)) (λ k from to. small k (omega (arith, from)) (omega (arith, to)))
      (omega (arith, e, word_at s.came p aligned, number_64 s.came p, low))) in
      let is = reads_first b m s v (p / 8) within is_other (omega (arith, same, some)) in
      omega (arith, is, same, word_at b p aligned)

module _ (b : List ℕ) (m : Marks) (s : Written) (v : Seen b m s) (octets : (k : ℕ) → slice_index b k < 256) where
  low_read_at : (i : ℕ) → i < words_of s.came → 0 < slice_index s.records (2 * i) → number_at w32 b (8 * i) ≡ slice_index s.records (2 * i)
  low_read_at i within some =
      let small = small_32 b (8 * i) (λ k from to. octets k) in
      omega (arith, reads_low b m s v i within some, word_is b i, number_64 b (8 * i), small)

  high_read_at : (i : ℕ) → i < words_of s.came → Stands s.came (8 * i + 4) (replicate 4 255) → 0 < slice_index s.records (2 * i + 1) → number_at w32 b (8 * i + 4) ≡ slice_index s.records (2 * i + 1)
  high_read_at i within stands some =
      let small = small_32 b (8 * i) (λ k from to. octets k) in
      let low = small_32 s.came (8 * i) (λ k from to. came_small b m s v k (omega (arith, to, within, as_long b m s v))) in
      let ones : word s.came i / 2 ^ 32 ≡ 2 ^ 32 - 1 = omega (arith, word_is s.came i, number_64 s.came (8 * i), ones_32 s.came (8 * i + 4) stands, low) in
      omega (arith, reads_high b m s v i within ones some, word_is b i, number_64 b (8 * i), small)

  -- a half that has a record lies in a whole word
  linked_within : (p : ℕ) → 0 < slice_index s.records (p / 4) → p / 8 < words_of s.came
  linked_within p some = elim (cases_lt (p / 4) (length s.records)) [
    | inl lt ↦ omega (arith, lt, records_count b m s v, as_long b m s v)
    | inr le ↦ absurd (omega (arith, some, get_or-eq_default s.records 0 le))
  ]

  pub record_read_at : (p : ℕ) → p % 4 ≡ 0 → (p % 8 ≡ 4 → Stands s.came p (replicate 4 255)) → 0 < slice_index s.records (p / 4) → number_at w32 b p ≡ slice_index s.records (p / 4)
  record_read_at p aligned stands some = let within = linked_within p some in elim (side p aligned) [
    | inl e ↦
        let cell : p / 4 ≡ 2 * (p / 8) = omega (arith, e) in
        let at : p ≡ 8 * (p / 8) = omega (arith, e) in
        let same = ap (slice_index s.records) cell in
        ap (number_at w32 b) at ∙ low_read_at (p / 8) within (omega (arith, same, some)) ∙ sym same
    | inr e ↦
        let cell : p / 4 ≡ 2 * (p / 8) + 1 = omega (arith, e) in
        let at : p ≡ 8 * (p / 8) + 4 = omega (arith, e) in
        let same = ap (slice_index s.records) cell in
        ap (number_at w32 b) at ∙ high_read_at (p / 8) within (subst (λ n. Stands s.came n (replicate 4 255)) at (stands e)) (omega (arith, same, some)) ∙ sym same
  ]
    where
      side : (p : ℕ) → p % 4 ≡ 0 → (p % 8 ≡ 0) ⊎ (p % 8 ≡ 4)
      side p aligned = grind (arith, aligned)
