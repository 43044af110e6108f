-- Numbers at places of a message, by its bytes.
use Rattle.std.proofs.Common.{◌≡◌, ℕ, zero, suc, ◌+◌, ◌-◌, ◌*◌, ◌/◌, ◌%◌, ◌^◌, ◌<◌, ◌≤◌, List, length, get_or, slice_index, slice_range, replicate, refl, sym, ap, ◌∙◌, arith}
use Rattle.std.specs.Int.{to_le_bytes, w16, w32, w64}
use Rattle.std.proofs.lemmas.List.Edits.{get_or-between}
use Rattle.fidl_wire.specs.Encoding.{present}
use Rattle.fidl_wire.specs.Field.{number_at}
use Rattle.fidl_wire.specs.Standing.{Stands}
use Rattle.fidl_wire.proofs.Stand.{copies_stand, copies_are, stands_both}
use Rattle.fidl_links.specs.Words.{word}

-- a byte of a part of a message
pub byte_of : (m : List ℕ) (p q k n : ℕ) → p + k < q → p + k ≡ n → get_or (slice_range m p q) k 0 ≡ get_or m n 0
byte_of m p q k n lt e = get_or-between m p q k 0 lt ∙ ap (λ j. get_or m j 0) e

module _ (m : List ℕ) (p : ℕ) where
  pub number_64 : number_at w64 m p ≡ number_at w32 m p + number_at w32 m (p + 4) * 2 ^ 32
  number_64 =
      let a0 = byte_of m p (p + 8) 0 (p + 0) (omega arith) refl in
      let a1 = byte_of m p (p + 8) 1 (p + 1) (omega arith) refl in
      let a2 = byte_of m p (p + 8) 2 (p + 2) (omega arith) refl in
      let a3 = byte_of m p (p + 8) 3 (p + 3) (omega arith) refl in
      let a4 = byte_of m p (p + 8) 4 (p + 4) (omega arith) refl in
      let a5 = byte_of m p (p + 8) 5 (p + 5) (omega arith) refl in
      let a6 = byte_of m p (p + 8) 6 (p + 6) (omega arith) refl in
      let a7 = byte_of m p (p + 8) 7 (p + 7) (omega arith) refl in
      let b0 = byte_of m p (p + 4) 0 (p + 0) (omega arith) refl in
      let b1 = byte_of m p (p + 4) 1 (p + 1) (omega arith) refl in
      let b2 = byte_of m p (p + 4) 2 (p + 2) (omega arith) refl in
      let b3 = byte_of m p (p + 4) 3 (p + 3) (omega arith) refl in
      let c0 = byte_of m (p + 4) (p + 4 + 4) 0 (p + 4) (omega arith) (omega arith) in
      let c1 = byte_of m (p + 4) (p + 4 + 4) 1 (p + 5) (omega arith) (omega arith) in
      let c2 = byte_of m (p + 4) (p + 4 + 4) 2 (p + 6) (omega arith) (omega arith) in
      let c3 = byte_of m (p + 4) (p + 4 + 4) 3 (p + 7) (omega arith) (omega arith) in
      omega (arith, a0, a1, a2, a3, a4, a5, a6, a7, b0, b1, b2, b3, c0, c1, c2, c3)

  pub number_32 : number_at w32 m p ≡ number_at w16 m p + number_at w16 m (p + 2) * 2 ^ 16
  number_32 =
      let a0 = byte_of m p (p + 4) 0 (p + 0) (omega arith) refl in
      let a1 = byte_of m p (p + 4) 1 (p + 1) (omega arith) refl in
      let a2 = byte_of m p (p + 4) 2 (p + 2) (omega arith) refl in
      let a3 = byte_of m p (p + 4) 3 (p + 3) (omega arith) refl in
      let b0 = byte_of m p (p + 2) 0 (p + 0) (omega arith) refl in
      let b1 = byte_of m p (p + 2) 1 (p + 1) (omega arith) refl in
      let c0 = byte_of m (p + 2) (p + 2 + 2) 0 (p + 2) (omega arith) (omega arith) in
      let c1 = byte_of m (p + 2) (p + 2 + 2) 1 (p + 3) (omega arith) (omega arith) in
      omega (arith, a0, a1, a2, a3, b0, b1, c0, c1)

  pub small_32 : ((k : ℕ) → p ≤ k → k < p + 4 → get_or m k 0 < 256) → number_at w32 m p < 2 ^ 32
  small_32 o =
      let b0 = byte_of m p (p + 4) 0 (p + 0) (omega arith) refl in
      let b1 = byte_of m p (p + 4) 1 (p + 1) (omega arith) refl in
      let b2 = byte_of m p (p + 4) 2 (p + 2) (omega arith) refl in
      let b3 = byte_of m p (p + 4) 3 (p + 3) (omega arith) refl in
      let o0 = o (p + 0) (omega arith) (omega arith) in
      let o1 = o (p + 1) (omega arith) (omega arith) in
      let o2 = o (p + 2) (omega arith) (omega arith) in
      let o3 = o (p + 3) (omega arith) (omega arith) in
      omega (arith, b0, b1, b2, b3, o0, o1, o2, o3)

  -- ones that stand, as a number
  pub ones_32 : Stands m p (replicate 4 255) → number_at w32 m p ≡ 2 ^ 32 - 1
  ones_32 h =
      let is : (k : ℕ) → p ≤ k → k < p + 4 → get_or m k 0 ≡ 255 = copies_are m 255 4 p h in
      let b0 = byte_of m p (p + 4) 0 (p + 0) (omega arith) refl ∙ is (p + 0) (omega arith) (omega arith) in
      let b1 = byte_of m p (p + 4) 1 (p + 1) (omega arith) refl ∙ is (p + 1) (omega arith) (omega arith) in
      let b2 = byte_of m p (p + 4) 2 (p + 2) (omega arith) refl ∙ is (p + 2) (omega arith) (omega arith) in
      let b3 = byte_of m p (p + 4) 3 (p + 3) (omega arith) refl ∙ is (p + 3) (omega arith) (omega arith) in
      omega (arith, b0, b1, b2, b3)

  -- and back
  pub ones_stand : p + 4 ≤ length m → ((k : ℕ) → p ≤ k → k < p + 4 → get_or m k 0 < 256) → number_at w32 m p ≡ 2 ^ 32 - 1 → Stands m p (replicate 4 255)
  ones_stand room o e = copies_stand m 255 4 p room (λ k from to. each (k - p) (omega (arith, from, to)) k (omega (arith, from)))
    where
      of : (j : ℕ) → j < 4 → get_or m (p + 0) 0 ≡ 255 → get_or m (p + 1) 0 ≡ 255 → get_or m (p + 2) 0 ≡ 255 → get_or m (p + 3) 0 ≡ 255 → get_or m (p + j) 0 ≡ 255
      of zero lt a b c d = a
      of (suc zero) lt a b c d = b
      of (suc (suc zero)) lt a b c d = c
      of (suc (suc (suc zero))) lt a b c d = d
      of (suc (suc (suc (suc j)))) lt a b c d = absurd (omega (arith, lt))

      each : (j : ℕ) → j < 4 → (k : ℕ) → p + j ≡ k → get_or m k 0 ≡ 255
      each j lt k at =
          let b0 = byte_of m p (p + 4) 0 (p + 0) (omega arith) refl in
          let b1 = byte_of m p (p + 4) 1 (p + 1) (omega arith) refl in
          let b2 = byte_of m p (p + 4) 2 (p + 2) (omega arith) refl in
          let b3 = byte_of m p (p + 4) 3 (p + 3) (omega arith) refl in
          let o0 = o (p + 0) (omega arith) (omega arith) in
          let o1 = o (p + 1) (omega arith) (omega arith) in
          let o2 = o (p + 2) (omega arith) (omega arith) in
          let o3 = o (p + 3) (omega arith) (omega arith) in
          let all0 : get_or m (p + 0) 0 ≡ 255 = omega (arith, b0, b1, b2, b3, o0, o1, o2, o3, e) in
          let all1 : get_or m (p + 1) 0 ≡ 255 = omega (arith, b0, b1, b2, b3, o0, o1, o2, o3, e) in
          let all2 : get_or m (p + 2) 0 ≡ 255 = omega (arith, b0, b1, b2, b3, o0, o1, o2, o3, e) in
          let all3 : get_or m (p + 3) 0 ≡ 255 = omega (arith, b0, b1, b2, b3, o0, o1, o2, o3, e) in
          ap (λ n. get_or m n 0) (sym at) ∙ of j lt all0 all1 all2 all3

  pub ones_64 : Stands m p present → number_at w64 m p ≡ 2 ^ 64 - 1
  ones_64 h =
      let is : (k : ℕ) → p ≤ k → k < p + 8 → get_or m k 0 ≡ 255 = copies_are m 255 8 p h in
      let low = ones_of p (λ k from to. is k from (omega (arith, to))) in
      let high = ones_of (p + 4) (λ k from to. is k (omega (arith, from)) (omega (arith, to))) in
      omega (arith, number_64, low, high)
    where
      ones_of : (q : ℕ) → ((k : ℕ) → q ≤ k → k < q + 4 → get_or m k 0 ≡ 255) → number_at w32 m q ≡ 2 ^ 32 - 1
      ones_of q is =
          let b0 = byte_of m q (q + 4) 0 (q + 0) (omega arith) refl ∙ is (q + 0) (omega arith) (omega arith) in
          let b1 = byte_of m q (q + 4) 1 (q + 1) (omega arith) refl ∙ is (q + 1) (omega arith) (omega arith) in
          let b2 = byte_of m q (q + 4) 2 (q + 2) (omega arith) refl ∙ is (q + 2) (omega arith) (omega arith) in
          let b3 = byte_of m q (q + 4) 3 (q + 3) (omega arith) refl ∙ is (q + 3) (omega arith) (omega arith) in
          omega (arith, b0, b1, b2, b3)

-- eight ones stand where the number says so
pub both_stand : (m : List ℕ) (p : ℕ) → p + 8 ≤ length m → ((k : ℕ) → p ≤ k → k < p + 8 → get_or m k 0 < 256) → number_at w64 m p ≡ 2 ^ 64 - 1 → Stands m p present
both_stand m p room o e =
    let low = small_32 m p (λ k from to. o k from (omega (arith, to))) in
    let high = small_32 m (p + 4) (λ k from to. o k (omega (arith, from)) (omega (arith, to))) in
    let first = ones_stand m p (omega (arith, room)) (λ k from to. o k from (omega (arith, to))) (omega (arith, number_64 m p, e, low, high)) in
    let second = ones_stand m (p + 4) (omega (arith, room)) (λ k from to. o k (omega (arith, from)) (omega (arith, to))) (omega (arith, number_64 m p, e, low, high)) in
    stands_both m p (replicate 4 255) (replicate 4 255) first second

-- the word at a place
pub word_at : (m : List ℕ) (p : ℕ) → p % 8 ≡ 0 → number_at w64 m p ≡ word m (p / 8)
unfolding word
word_at m p a = let e : p ≡ 8 * (p / 8) = omega (arith, a) in ap (number_at w64 m) e

pub word_is : (m : List ℕ) (i : ℕ) → word m i ≡ number_at w64 m (8 * i)
unfolding word
word_is m i = refl

-- ---- bytes of words that have a half in common

pub low_bytes : (n o j : ℕ) → j < 4 → n % 2 ^ 32 ≡ o % 2 ^ 32 → slice_index (to_le_bytes w64 n) j ≡ slice_index (to_le_bytes w64 o) j
low_bytes n o zero lt e = omega (arith, e)
low_bytes n o (suc zero) lt e = omega (arith, e)
low_bytes n o (suc (suc zero)) lt e = omega (arith, e)
low_bytes n o (suc (suc (suc zero))) lt e = omega (arith, e)
low_bytes n o (suc (suc (suc (suc j)))) lt e = absurd (omega (arith, lt))

pub high_bytes : (n o j : ℕ) → j < 4 → n / 2 ^ 32 ≡ o / 2 ^ 32 → slice_index (to_le_bytes w64 n) (4 + j) ≡ slice_index (to_le_bytes w64 o) (4 + j)
high_bytes n o zero lt e = omega (arith, e)
high_bytes n o (suc zero) lt e = omega (arith, e)
high_bytes n o (suc (suc zero)) lt e = omega (arith, e)
high_bytes n o (suc (suc (suc zero))) lt e = omega (arith, e)
high_bytes n o (suc (suc (suc (suc j)))) lt e = absurd (omega (arith, lt))

-- each byte of a number is one
pub byte_small : (n j : ℕ) → slice_index (to_le_bytes w64 n) j < 256
byte_small n zero = omega arith
byte_small n (suc zero) = omega arith
byte_small n (suc (suc zero)) = omega arith
byte_small n (suc (suc (suc zero))) = omega arith
byte_small n (suc (suc (suc (suc zero)))) = omega arith
byte_small n (suc (suc (suc (suc (suc zero))))) = omega arith
byte_small n (suc (suc (suc (suc (suc (suc zero)))))) = omega arith
byte_small n (suc (suc (suc (suc (suc (suc (suc zero))))))) = omega arith
byte_small n (suc (suc (suc (suc (suc (suc (suc (suc j)))))))) = omega arith
