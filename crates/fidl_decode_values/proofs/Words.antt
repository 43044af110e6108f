-- Words of bytes that are read as one number: the high bits of the bytes, an envelope's numbers, and
-- a byte before zeros.
use Rattle.std.proofs.Common.{◌≡◌, ℕ, zero, suc, ◌+◌, ◌-◌, ◌/◌, ◌%◌, ◌<◌, ◌≤◌, ◌*◌, ◌^◌, List, [], ◌∷◌, length, get_or, inl, inr, refl, sym, ap, subst, ◌∙◌, arith}
use Rattle.std.specs.Prelude.{min}
use Rattle.std.specs.Int.{w16, w32, w64, to_le_bytes, bytes_low_first, bit_at}
use Rattle.std.specs.Int.Bits.{bit_and}
use Rattle.std.proofs.Math.Nat.{div-div-eq-div-mul}
use Rattle.std.proofs.lemmas.Nat.Bits.{bit_at_and, bit_at-zero}
use Rattle.std.proofs.lemmas.Bool.{cases_lt}
use Rattle.fidl_wire.specs.Term.{uint32, uint64}
use Rattle.fidl_wire.specs.Encoding.{zeros}
use Rattle.fidl_wire.specs.Standing.{Stands}
use Rattle.fidl_wire.proofs.Stand.{stands_to, stands_front, stands_back}
use Rattle.fidl_wire.specs.Field.{number_at}
use Rattle.fidl_wire.specs.Envelope.{bytes_below, handles_below, flags_at}
use Rattle.fidl_decode_model.proofs.Numbers.{number_16, number_32}
use Rattle.fidl_decode_model.proofs.Scalars.{standing}

-- the high bit of each of eight bytes
abbrev pub high_bits : ℕ
high_bits = 0x8080_8080_8080_8080

-- a bit that the mask has, and the word has not
unset : (n i : ℕ) → bit_and n high_bits ≡ 0 → bit_at high_bits i ≡ 1 → n / 2 ^ i % 2 ≡ 0
unset n i none one =
    let z : bit_at (bit_and n high_bits) i ≡ 0 = ap (λ k. bit_at k i) none ∙ bit_at-zero i in
    let both : min (bit_at n i) 1 ≡ 0 = ap (λ k. min (bit_at n i) k) (sym one) ∙ sym (bit_at_and n high_bits i) ∙ z in
    omega (arith, both)

-- a byte without its high bit
low_byte : (q : ℕ) → q / 128 % 2 ≡ 0 → q % 256 < 128
low_byte q none = omega arith

low_digit : (n p : ℕ) → n / (p * 128) % 2 ≡ 0 → n / p % 256 < 128
low_digit n p none = low_byte (n / p) (ap (λ x. x % 2) (div-div-eq-div-mul n p 128) ∙ none)

abbrev Low : List ℕ → Type 0
Low [] = Unit {0}
Low (b ∷ bs) = (b < 128) × Low bs

low_word : (n : ℕ) → bit_and n high_bits ≡ 0 → Low (to_le_bytes w64 n)
low_word n none = (
  low_byte n (unset n 7 none refl),
  (
    low_digit n (2 ^ 8) (unset n 15 none refl),
    (
      low_digit n (2 ^ 16) (unset n 23 none refl),
      (
        low_digit n (2 ^ 24) (unset n 31 none refl),
        (
          low_digit n (2 ^ 32) (unset n 39 none refl),
          (
            low_digit n (2 ^ 40) (unset n 47 none refl),
            (low_digit n (2 ^ 48) (unset n 55 none refl), (low_digit n (2 ^ 56) (unset n 63 none refl), tt)),
          ),
        ),
      ),
    ),
  ),
)

low_stands : (m : List ℕ) (p : ℕ) (a : List ℕ) → Low a → Stands m p a → (k : ℕ) → p ≤ k → k < p + length a → get_or m k 0 < 128
low_stands m p [] l s k after before = absurd (omega arith)
low_stands m p (b ∷ bs) l s k after before = elim (cases_lt p k) [
  | inl lt ↦ low_stands m (p + 1) bs l.1 s.2 k (omega arith) (omega arith)
  | inr le ↦ (let e : p ≡ k = omega arith in subst (λ i. get_or m i 0 < 128) e (subst (λ x. x < 128) (sym s.1) l.0))
]

module _ (m : List ℕ) (p : ℕ) (room : p + 8 ≤ length m) (small : (i : ℕ) → get_or m i 0 < 256) where
  abbrev n : ℕ
  n = number_at w64 m p

  stands : Stands m p (to_le_bytes w64 n)
  stands = (standing uint64 m p room small).1

  -- bytes of a word that has none of the high bits
  pub ascii_word : bit_and (number_at w64 m p) high_bits ≡ 0 → (k : ℕ) → p ≤ k → k < p + 8 → get_or m k 0 < 128
  ascii_word none = low_stands m p (to_le_bytes w64 n) (low_word n none) stands

  -- the numbers of an envelope that are small as one number
  module _ (few : number_at w64 m p < 2 ^ 32) where
    behind : Stands m (p + 4) (bytes_low_first 4 4 n)
    behind = stands_back m p (to_le_bytes w32 n) (bytes_low_first 4 4 n) stands

    pub counted_small : bytes_below m p ≡ number_at w64 m p
    counted_small = number_32 m p n few (stands_front m p (to_le_bytes w32 n) (bytes_low_first 4 4 n) stands)

    pub handles_none : handles_below m p ≡ 0
    handles_none = number_16 m (p + 4) 0 (omega arith) (behind.0, behind.1 ∙ omega (arith, few), (behind.2.0, behind.2.1 ∙ omega (arith, few), tt))

    pub flags_none : flags_at m p ≡ 0
    flags_none =
        let rest = behind.2.2 in
        number_16 m (p + 6) 0 (omega arith) (stands_to m (p + 4 + 1 + 1) (p + 6) (to_le_bytes w16 0) (omega arith) (rest.0, rest.1 ∙ omega (arith, few), (rest.2.0, rest.2.1 ∙ omega (arith, few), tt)))

  -- the numbers of an envelope that holds a bool, and counts no handles, from all but its lowest bit
  pub bool_numbers : number_at w64 m p / 2 ≡ 0x8000_0000_0000 → (handles_below m p ≡ 0) × (flags_at m p ≡ 1) × (bytes_below m p ≤ 1)
  bool_numbers is =
      let back : Stands m (p + 4) (bytes_low_first 4 4 n) = stands_back m p (to_le_bytes w32 n) (bytes_low_first 4 4 n) stands in
      let front : Stands m p (to_le_bytes w32 n) = stands_front m p (to_le_bytes w32 n) (bytes_low_first 4 4 n) stands in
      let a : n % 256 ≡ n % 2 % 256 = omega (arith, is) in
      let b : n / 256 % 256 ≡ n % 2 / 256 % 256 = omega (arith, is) in
      let d : n / 65536 % 256 ≡ n % 2 / 65536 % 256 = omega (arith, is) in
      let e : n / 16777216 % 256 ≡ n % 2 / 16777216 % 256 = omega (arith, is) in
      let low : to_le_bytes w32 n ≡ to_le_bytes w32 (n % 2) = (λ i. a i ∷ b i ∷ d i ∷ e i ∷ []) in
      let counted : bytes_below m p ≡ n % 2 = number_32 m p (n % 2) (omega arith) (subst (λ (l : List ℕ). Stands m p l) low front) in
      let rest = back.2.2 in (
        number_16 m (p + 4) 0 (omega arith) (back.0, back.1 ∙ omega (arith, is), (back.2.0, back.2.1 ∙ omega (arith, is), tt)),
        number_16 m (p + 6) 1 (omega arith) (stands_to m (p + 4 + 1 + 1) (p + 6) (to_le_bytes w16 1) (omega arith) (rest.0, rest.1 ∙ omega (arith, is), (rest.2.0, rest.2.1 ∙ omega (arith, is), tt))),
        omega (arith, counted),
      )

  -- the numbers of an envelope that holds its member, and counts no handles
  pub inside_numbers : number_at w32 m (p + 4) ≡ 0x1_0000 → (handles_below m p ≡ 0) × (flags_at m p ≡ 1)
  inside_numbers is =
      let here : p + 4 + 4 ≤ length m = omega (arith, room) in
      let all : Stands m (p + 4) (to_le_bytes w32 0x1_0000) = subst (λ k. Stands m (p + 4) (to_le_bytes w32 k)) is (standing uint32 m (p + 4) here small).1 in
      let rest = all.2.2 in (
        number_16 m (p + 4) 0 (omega arith) (stands_front m (p + 4) (to_le_bytes w16 0) (to_le_bytes w16 1) all),
        number_16 m (p + 6) 1 (omega arith) (stands_to m (p + 4 + 1 + 1) (p + 6) (to_le_bytes w16 1) (omega arith) rest),
      )

short_byte : (n : ℕ) → n < 256 → to_le_bytes w32 n ≡ n ∷ zeros 3
short_byte n lt =
    let own : n % 256 ≡ n = omega arith in
    let a : n / 256 % 256 ≡ 0 = omega arith in
    let b : n / 65536 % 256 ≡ 0 = omega arith in
    let c : n / 16777216 % 256 ≡ 0 = omega arith in
    λ i. own i ∷ a i ∷ b i ∷ c i ∷ []

-- bytes of a number of four bytes that has nothing from so many bytes on
zero_tail : (m : List ℕ) (p w : ℕ) → Stands m p (to_le_bytes w32 w) → (size : ℕ) → size ≤ 4 → w / 2 ^ (8 * size) ≡ 0 → Stands m (p + size) (zeros (4 - size))
zero_tail m p w s zero le z = stands_to m p (p + 0) (zeros 4) (omega arith) (s.0, s.1 ∙ omega (arith, z), (s.2.0, s.2.1 ∙ omega (arith, z), (s.2.2.0, s.2.2.1 ∙ omega (arith, z), (s.2.2.2.0, s.2.2.2.1 ∙ omega (arith, z), tt))))
zero_tail m p w s (suc zero) le z = (s.2.0, s.2.1 ∙ omega (arith, z), (s.2.2.0, s.2.2.1 ∙ omega (arith, z), (s.2.2.2.0, s.2.2.2.1 ∙ omega (arith, z), tt)))
zero_tail m p w s (suc (suc zero)) le z = stands_to m (p + 1 + 1) (p + 2) (zeros 2) (omega arith) (s.2.2.0, s.2.2.1 ∙ omega (arith, z), (s.2.2.2.0, s.2.2.2.1 ∙ omega (arith, z), tt))
zero_tail m p w s (suc (suc (suc zero))) le z = stands_to m (p + 1 + 1 + 1) (p + 3) (zeros 1) (omega arith) (s.2.2.2.0, s.2.2.2.1 ∙ omega (arith, z), tt)
zero_tail m p w s (suc (suc (suc (suc zero)))) le z = tt
zero_tail m p w s (suc (suc (suc (suc (suc more))))) le z = absurd (omega (arith, le))

module _ (m : List ℕ) (p : ℕ) (small : (i : ℕ) → get_or m i 0 < 256) where
  -- a number of four bytes that is below 256 is that of the first, and the others are zeros
  pub byte_below : p + 4 ≤ length m → (n : ℕ) → number_at w32 m p ≡ n → n < 256 → (get_or m p 0 ≡ n) × Stands m (p + 1) (zeros 3)
  byte_below room n is lt =
      let all : Stands m p (to_le_bytes w32 n) = subst (λ k. Stands m p (to_le_bytes w32 k)) is (standing uint32 m p room small).1 in
      let parts : Stands m p (n ∷ zeros 3) = subst (λ (l : List ℕ). Stands m p l) (short_byte n lt) all in
      (parts.1, parts.2)

  -- nothing stands behind so many bytes of a number of four
  pub zeros_behind : p + 4 ≤ length m → (size : ℕ) → size ≤ 4 → number_at w32 m p / 2 ^ (8 * size) ≡ 0 → Stands m (p + size) (zeros (p + 4 - (p + size)))
  zeros_behind room size le z =
      let same : 4 - size ≡ p + 4 - (p + size) = omega arith in
      subst (λ k. Stands m (p + size) (zeros k)) same (zero_tail m p (number_at w32 m p) (standing uint32 m p room small).1 size le z)
