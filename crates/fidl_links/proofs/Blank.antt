-- Zeros that stand in a word, or in a half: no link stands there, and zeros came.
use Rattle.std.proofs.Common.{◌≡◌, ℕ, zero, suc, ◌+◌, ◌-◌, ◌*◌, ◌/◌, ◌%◌, ◌^◌, ◌<◌, ◌≤◌, List, length, get_or, slice_index, refl, sym, ap, ◌∙◌, arith}
use Rattle.std.specs.Int.{w32, w64}
use Rattle.fidl_wire.specs.Encoding.{zeros}
use Rattle.fidl_wire.specs.Field.{number_at}
use Rattle.fidl_wire.specs.Standing.{Stands}
use Rattle.fidl_wire.proofs.Stand.{copies_stand, copies_are, stands_both}
use Rattle.fidl_links.specs.Coding.{EnvelopeSound, IsSound, object_cell, low_cell, high_cell}
use Rattle.fidl_links.specs.Links.{Written, IsFree, AreFree, IsFreeWord}
use Rattle.fidl_links.specs.Marks.{Marks}
use Rattle.fidl_links.specs.Words.{word, words_of}
use Rattle.fidl_links.proofs.Free.{free_in}
use Rattle.fidl_links.proofs.FreeBytes.{same_number}
use Rattle.fidl_links.proofs.Numbers.{byte_of, number_64, word_at}
use Rattle.fidl_links.proofs.Seen.{Seen, as_long, came_is, object_is, low_is, high_is}
use Rattle.fidl_links.proofs.Steps as step

-- ---- zeros as numbers

module _ (m : List ℕ) (p : ℕ) where
  pub zeros_32 : Stands m p (zeros 4) → number_at w32 m p ≡ 0
  zeros_32 h =
      let is : (k : ℕ) → p ≤ k → k < p + 4 → get_or m k 0 ≡ 0 = copies_are m 0 4 p h in
      let b0 = byte_of m p (p + 4) 0 (p + 0) (omega arith) refl ∙ is (p + 0) (omega arith) (omega arith) in
      let b1 = byte_of m p (p + 4) 1 (p + 1) (omega arith) refl ∙ is (p + 1) (omega arith) (omega arith) in
      let b2 = byte_of m p (p + 4) 2 (p + 2) (omega arith) refl ∙ is (p + 2) (omega arith) (omega arith) in
      let b3 = byte_of m p (p + 4) 3 (p + 3) (omega arith) refl ∙ is (p + 3) (omega arith) (omega arith) in
      omega (arith, b0, b1, b2, b3)

  pub zeros_stand_32 : p + 4 ≤ length m → number_at w32 m p ≡ 0 → Stands m p (zeros 4)
  zeros_stand_32 room e =
      let b0 = byte_of m p (p + 4) 0 (p + 0) (omega arith) refl in
      let b1 = byte_of m p (p + 4) 1 (p + 1) (omega arith) refl in
      let b2 = byte_of m p (p + 4) 2 (p + 2) (omega arith) refl in
      let b3 = byte_of m p (p + 4) 3 (p + 3) (omega arith) refl in
      let z0 : get_or m (p + 0) 0 ≡ 0 = omega (arith, b0, e) in
      let z1 : get_or m (p + 1) 0 ≡ 0 = omega (arith, b1, e) in
      let z2 : get_or m (p + 2) 0 ≡ 0 = omega (arith, b2, e) in
      let z3 : get_or m (p + 3) 0 ≡ 0 = omega (arith, b3, e) in
      copies_stand m 0 4 p room (λ k from to.
      let at : p + (k - p) ≡ k = omega (arith, from) in
      ap (λ n. get_or m n 0) (sym at) ∙ each (k - p) (omega (arith, from, to)) z0 z1 z2 z3)
    where
      each : (j : ℕ) → j < 4 → get_or m (p + 0) 0 ≡ 0 → get_or m (p + 1) 0 ≡ 0 → get_or m (p + 2) 0 ≡ 0 → get_or m (p + 3) 0 ≡ 0 → get_or m (p + j) 0 ≡ 0
      each zero lt a b c d = a
      each (suc zero) lt a b c d = b
      each (suc (suc zero)) lt a b c d = c
      each (suc (suc (suc zero))) lt a b c d = d
      each (suc (suc (suc (suc j)))) lt a b c d = absurd (omega (arith, lt))

pub zeros_64 : (m : List ℕ) (p : ℕ) → Stands m p (zeros 8) → number_at w64 m p ≡ 0
zeros_64 m p h =
    let is : (k : ℕ) → p ≤ k → k < p + 8 → get_or m k 0 ≡ 0 = copies_are m 0 8 p h in
    let room : p + 8 ≤ length m = last h in
    let low = zeros_32 m p (copies_stand m 0 4 p (omega (arith, room)) (λ k from to. is k from (omega (arith, to)))) in
    let high = zeros_32 m (p + 4) (copies_stand m 0 4 (p + 4) (omega (arith, room)) (λ k from to. is k (omega (arith, from)) (omega (arith, to)))) in
    omega (arith, number_64 m p, low, high)
  where
    last : Stands m p (zeros 8) → p + 8 ≤ length m
    last h = omega (arith, h.2.2.2.2.2.2.2.0)

pub zeros_stand_64 : (m : List ℕ) (p : ℕ) → p + 8 ≤ length m → number_at w64 m p ≡ 0 → Stands m p (zeros 8)
zeros_stand_64 m p room e =
    let first = zeros_stand_32 m p (omega (arith, room)) (omega (arith, number_64 m p, e)) in
    let second = zeros_stand_32 m (p + 4) (omega (arith, room)) (omega (arith, number_64 m p, e)) in
    stands_both m p (zeros 4) (zeros 4) first second

-- ---- a word in which zeros stand

-- it holds no link, since no link is 0
zero_is_free : (m e h k w : ℕ) → w ≡ 0 → IsSound m e h k w → step.IsFree m e h k
zero_is_free (suc m) e h k w z s = absurd (omega (arith, z, s.0))
zero_is_free zero (suc e) h k w z s = absurd (go (w / 2 ^ 63) (omega (arith, z)) s)
  where
    go : (t : ℕ) → t ≡ 0 → EnvelopeSound t h w → ⊥
    go zero top s = omega (arith, s, z)
    go (suc t) top s = omega (arith, top)
zero_is_free zero zero (suc h) k w z s = absurd (omega (arith, z, s.0))
zero_is_free zero zero zero (suc k) w z s = absurd (omega (arith, z, s.1))
zero_is_free zero zero zero zero w z s = record { marker = refl; envelope = refl; lower = refl; upper = refl }

-- so its cells are 0
record Cells (m e h k w : ℕ) : Type 0 where
  object : object_cell m e w ≡ 0
  lower : low_cell m e h w ≡ 0
  upper : high_cell m e k w ≡ 0

free_is_empty : (m e h k w : ℕ) → step.IsFree m e h k → Cells m e h k w
free_is_empty zero zero zero zero w f = record { object = refl; lower = refl; upper = refl }
free_is_empty (suc m) e h k w f = absurd (omega (arith, f.marker))
free_is_empty zero (suc e) h k w f = absurd (omega (arith, f.envelope))
free_is_empty zero zero (suc h) k w f = absurd (omega (arith, f.lower))
free_is_empty zero zero zero (suc k) w f = absurd (omega (arith, f.upper))

module _ (b : List ℕ) (m : Marks) (s : Written) (v : Seen b m s) (octets : (k : ℕ) → slice_index b k < 256) (p : ℕ) where
  module _ (aligned : p % 8 ≡ 0) (room : p + 8 ≤ length s.came) where
    within : p / 8 < words_of b
    within = omega (arith, aligned, room, as_long b m s v)

    pub blank_is : number_at w64 b p ≡ 0 → IsFreeWord s p × Stands s.came p (zeros 8)
    blank_is none =
        let i = p / 8 in
        let stands : word b i ≡ 0 = sym (word_at b p aligned) ∙ none in
        let free = zero_is_free _ _ _ _ (word b i) stands (v.sound i within).1 in
        let cells = free_is_empty _ _ _ _ (word b i) free in
        let came : number_at w64 s.came p ≡ 0 = word_at s.came p aligned ∙ came_is b m s v i within ∙ step.free_came _ _ _ _ (word b i) free ∙ stands in
        let object = object_is b m s v i within ∙ cells.object in
        let lower = low_is b m s v i within ∙ cells.lower in
        let upper = high_is b m s v i within ∙ cells.upper in
        let low : p / 4 ≡ 2 * i = omega (arith, aligned) in
        let high : (p + 4) / 4 ≡ 2 * i + 1 = omega (arith, aligned) in
        let same : (p + 4) / 8 ≡ i = omega (arith, aligned) in (
          (
            (object, ap (slice_index s.records) low ∙ lower),
            (ap (slice_index s.objects) same ∙ object, ap (slice_index s.records) high ∙ upper),
          ),
          zeros_stand_64 s.came p room came,
        )

    pub is_blank : IsFreeWord s p → Stands s.came p (zeros 8) → number_at w64 b p ≡ 0
    is_blank free none = same_number b m s v octets w64 p (p + 8) p room (free_in s p aligned free) (omega arith) (omega arith) ∙ zeros_64 s.came p none

  -- four bytes where no link stands and zeros came
  pub is_blank_half : p % 4 ≡ 0 → p + 4 ≤ length s.came → IsFree s p → Stands s.came p (zeros 4) → number_at w32 b p ≡ 0
  is_blank_half aligned room free none = same_number b m s v octets w32 p (p + 4) p room all (omega arith) (omega arith) ∙ zeros_32 s.came p none
    where
      all : AreFree s p (p + 4)
      all k from to =
          let word : k / 8 ≡ p / 8 = omega (arith, aligned, from, to) in
          let half : k / 4 ≡ p / 4 = omega (arith, aligned, from, to) in
          (ap (slice_index s.objects) word ∙ free.0, ap (slice_index s.records) half ∙ free.1)
