-- Eight bytes that are read as one number, and have no high bit.
use Rattle.std.proofs.Common.{◌≡◌, ℕ, ◌+◌, ◌-◌, ◌/◌, ◌%◌, ◌<◌, ◌≤◌, ◌*◌, ◌^◌, List, [], ◌∷◌, length, get_or, zero, suc, inl, inr, refl, sym, ap, subst, ◌∙◌, arith, drop, get_or-take, get_or-drop, length-take-le, length-drop}
use Rattle.std.specs.Prelude.{min, slice_range}
use Rattle.std.specs.Int.{w64, to_le_bytes, bit_at}
use Rattle.std.specs.Int.Bits.{bit_and}
use Rattle.std.proofs.Math.Nat.{div-div-eq-div-mul}
use Rattle.std.proofs.lemmas.Bool.{cases_lt}
use Rattle.std.proofs.lemmas.List.{get_or_past}
use Rattle.std.proofs.lemmas.Nat.{le_bytes_8}
use Rattle.std.proofs.lemmas.Nat.Bits.{bit_at_and, bit_at-zero}
use Rattle.fidl_wire.specs.Field.{number_at}

-- the high bit of each of eight bytes
abbrev pub high_bits : ℕ
high_bits = 0x8080_8080_8080_8080

-- a bit that the mask has, and the word has not
unset : (n i : ℕ) → bit_and n high_bits ≡ 0 → bit_at high_bits i ≡ 1 → n / 2 ^ i % 2 ≡ 0
unset n i none one =
    let z : bit_at (bit_and n high_bits) i ≡ 0 = ap (λ k. bit_at k i) none ∙ bit_at-zero i in
    let both : min (bit_at n i) 1 ≡ 0 = ap (λ k. min (bit_at n i) k) (sym one) ∙ sym (bit_at_and n high_bits i) ∙ z in
    omega (arith, both)

-- a byte without its high bit
low_byte : (q : ℕ) → q / 128 % 2 ≡ 0 → q % 256 < 128
low_byte q none = omega arith

low_digit : (n p : ℕ) → n / (p * 128) % 2 ≡ 0 → n / p % 256 < 128
low_digit n p none = low_byte (n / p) (ap (λ x. x % 2) (div-div-eq-div-mul n p 128) ∙ none)

abbrev Low : List ℕ → Type 0
Low [] = Unit {0}
Low (b ∷ bs) = (b < 128) × Low bs

low_word : (n : ℕ) → bit_and n high_bits ≡ 0 → Low (to_le_bytes w64 n)
low_word n none = (
  low_byte n (unset n 7 none refl),
  (
    low_digit n (2 ^ 8) (unset n 15 none refl),
    (
      low_digit n (2 ^ 16) (unset n 23 none refl),
      (
        low_digit n (2 ^ 24) (unset n 31 none refl),
        (
          low_digit n (2 ^ 32) (unset n 39 none refl),
          (
            low_digit n (2 ^ 40) (unset n 47 none refl),
            (low_digit n (2 ^ 48) (unset n 55 none refl), (low_digit n (2 ^ 56) (unset n 63 none refl), tt)),
          ),
        ),
      ),
    ),
  ),
)

low_at : (bs : List ℕ) → Low bs → (i : ℕ) → get_or bs i 0 < 128
low_at [] h i = omega arith
low_at (b ∷ bs) h zero = h.0
low_at (b ∷ bs) h (suc i) = low_at bs h.1 i

module _ (m : List ℕ) (p : ℕ) (room : p + 8 ≤ length m) (small : (i : ℕ) → get_or m i 0 < 256) where
  abbrev part : List ℕ
  part = slice_range m p (p + 8)

  part_at : (i : ℕ) → i < 8 → get_or part i 0 ≡ get_or m (p + i) 0
  part_at i h = get_or-take (p + 8 - p) (drop p m) i 0 (omega (arith, h)) ∙ get_or-drop p m i 0

  part_length : length part ≡ 8
  part_length = let n = length-take-le (p + 8 - p) (drop p m) (omega (arith, room, length-drop p m)) in omega (arith, n)

  part_small : (i : ℕ) → get_or part i 0 < 256
  part_small i = elim (cases_lt i 8) [
    | inl lt ↦ subst (λ b. b < 256) (sym (part_at i lt)) (small (p + i))
    | inr le ↦ (let past = get_or_past part i 0 (omega (arith, part_length, le)) in omega (arith, past))
  ]

  -- bytes of a word that has none of the high bits
  pub ascii_word : bit_and (number_at w64 m p) high_bits ≡ 0 → (k : ℕ) → p ≤ k → k < p + 8 → get_or m k 0 < 128
  ascii_word none k after before =
      let low = subst Low (le_bytes_8 part (number_at w64 m p) part_length part_small refl) (low_word (number_at w64 m p) none) in
      let is : p + (k - p) ≡ k = omega (arith, after) in
      subst (λ b. b < 128) (part_at (k - p) (omega (arith, after, before)) ∙ ap (λ i. get_or m i 0) is) (low_at part low (k - p))
