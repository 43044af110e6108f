-- A number of eight bytes, and the bytes and numbers in it.
use Rattle.std.proofs.Common.{◌≡◌, ℕ, zero, suc, ◌+◌, ◌-◌, ◌*◌, ◌/◌, ◌%◌, ◌^◌, ◌<◌, ◌≤◌, pos, List, length, get_or, slice_range, max, inl, inr, refl, sym, ap, subst, ◌∙◌, arith}
use Rattle.std.specs.Prelude.{true, false, Option, Some, None, bit_and, bit_or}
use Rattle.std.specs.Option.{option_map_or}
use Rattle.std.specs.Int.{Width, w8, w16, w32, w64, w128, byte_len, bytes_low_first, byte_at, bit_at}
use Rattle.std.specs.Int.Bits.{or_zero_l, or_zero_r}
use Rattle.std.proofs.Math.Nat.{div-one, zero-div}
use Rattle.std.proofs.lemmas.Bool.{cases_lt}
use Rattle.std.proofs.lemmas.List.{get_or_past}
use Rattle.std.proofs.lemmas.List.Edits.{length-between}
use Rattle.std.proofs.lemmas.Nat.{le_bytes_8, mod-pow-add, shr-shr, or_comm, or_shr, or_mod, or_block, mod_below, and_mask, shr_high, pow_pos, pow-add}
use Rattle.std.proofs.lemmas.Nat.Bits.{bit_at_or, same_from_bits}
use Rattle.fidl_links.proofs.Numbers.{byte_of}
use Rattle.fidl_table_format.specs.declared.kind.EntryKind.{EntryKind}
use Rattle.fidl_table_format.specs.declared.kind.EntryKind.TheVariants.{Uint8, Uint16, Uint32, Uint64}
use Rattle.fidl_table_format.specs.Number.{number_standing}
use Rattle.fidl_table_format.specs.Terms.{as_number}
use Rattle.fidl_table_format.specs.Uses.{is_unsigned}
use Rattle.fidl_wire.specs.Encoding.{zeros}
use Rattle.fidl_wire.specs.Field.{number_at}
use Rattle.fidl_wire.specs.Standing.{Stands}
use Rattle.fidl_wire.specs.Term as ty
use Rattle.fidl_wire.specs.Term.{width}
use Rattle.fidl_decode_columns.specs.Columns.{bits_at}

nth_byte : (a n x i : ℕ) → i < n → get_or (bytes_low_first a n x) i 0 ≡ byte_at (a + i) x
nth_byte a zero x i lt = absurd (omega (arith, lt))
nth_byte a (suc n) x zero lt = ap (λ j. byte_at j x) (let e : a ≡ a + 0 = omega arith in e)
nth_byte a (suc n) x (suc i) lt = nth_byte (suc a) n x i (omega (arith, lt)) ∙ ap (λ j. byte_at j x) (let e : suc a + i ≡ a + suc i = omega arith in e)

byte_shifted : (i x : ℕ) → i < 8 → byte_at i x ≡ x / 2 ^ (8 * i) % 2 ^ 8
byte_shifted zero x lt = ap (λ n. n % 256) (sym (div-one x))
byte_shifted (suc zero) x lt = refl
byte_shifted (suc (suc zero)) x lt = refl
byte_shifted (suc (suc (suc zero))) x lt = refl
byte_shifted (suc (suc (suc (suc zero)))) x lt = refl
byte_shifted (suc (suc (suc (suc (suc zero))))) x lt = refl
byte_shifted (suc (suc (suc (suc (suc (suc zero)))))) x lt = refl
byte_shifted (suc (suc (suc (suc (suc (suc (suc zero))))))) x lt = refl
byte_shifted (suc (suc (suc (suc (suc (suc (suc (suc i)))))))) x lt = absurd (omega (arith, lt))

module _ (m : List ℕ) (p : ℕ) (room : p + 8 ≤ length m) (small : (k : ℕ) → get_or m k 0 < 256) where
  abbrev part : List ℕ
  part = slice_range m p (p + 8)

  part_length : length part ≡ 8
  part_length = let n = length-between m p (p + 8) (omega (arith, room)) in omega (arith, n)

  part_small : (i : ℕ) → get_or part i 0 < 256
  part_small i = elim (cases_lt i 8) [
    | inl lt ↦ subst (λ b. b < 256) (sym (byte_of m p (p + 8) i (p + i) (omega (arith, lt)) refl)) (small (p + i))
    | inr le ↦ (let past = get_or_past part i 0 (omega (arith, part_length, le)) in omega (arith, past))
  ]

  -- a byte of the eight
  pub byte_is : (i : ℕ) → i < 8 → get_or m (p + i) 0 ≡ number_at w64 m p / 2 ^ (8 * i) % 2 ^ 8
  byte_is i lt =
      let x = number_at w64 m p in
      let there : get_or part i 0 ≡ get_or m (p + i) 0 = byte_of m p (p + 8) i (p + i) (omega (arith, lt)) refl in
      sym there ∙ ap (λ l. get_or l i 0) (sym (le_bytes_8 part x part_length part_small refl)) ∙ nth_byte 0 8 x i lt ∙ ap (λ j. byte_at j x) (let e : 0 + i ≡ i = omega arith in e) ∙ byte_shifted i x lt

  -- where the eight bytes from one of them on are zero, so is each
  pub zero_from : (n : ℕ) → n ≤ 8 → number_at w64 m p / 2 ^ (8 * (8 - n)) ≡ 0 → (k : ℕ) → p + 8 - n ≤ k → k < p + 8 → get_or m k 0 ≡ 0
  zero_from n le none k from to =
      let x = number_at w64 m p in
      let i = k - p in
      let here : p + i ≡ k = omega (arith, from, le) in
      let lt : i < 8 = omega (arith, to) in
      let rest : 8 * (8 - n) + 8 * (i - (8 - n)) ≡ 8 * i = omega (arith, from, le) in
      let high : x / 2 ^ (8 * i) ≡ 0 = ap (λ e. x / 2 ^ e) (sym rest) ∙ sym (shr-shr x (8 * (8 - n)) (8 * (i - (8 - n)))) ∙ ap (λ y. y / 2 ^ (8 * (i - (8 - n)))) none ∙ zero-div (2 ^ (8 * (i - (8 - n)))) in
      ap (λ j. get_or m j 0) (sym here) ∙ byte_is i lt ∙ ap (λ y. y % 2 ^ 8) high

-- bits that are set in a number are set in another
pub within_trans : (x s m : ℕ) → bit_or x s ≡ s → bit_or s m ≡ m → bit_or x m ≡ m
within_trans x s m first then =
    same_from_bits (bit_or x m) m (λ i.
    let a : bit_at (bit_or x s) i ≡ bit_at s i = ap (λ n. bit_at n i) first in
    let b : bit_at (bit_or s m) i ≡ bit_at m i = ap (λ n. bit_at n i) then in
    highest (bit_at x i) (bit_at s i) (bit_at m i) _ (sym (bit_at_or x s i) ∙ a) (sym (bit_at_or s m i) ∙ b) (bit_at_or x m i))
  where
    highest : (x s m n : ℕ) → max x s ≡ s → max s m ≡ m → n ≡ max x m → n ≡ m
    highest x s m n a b e = omega arith

pub within_left : (x y : ℕ) → bit_or x (bit_or x y) ≡ bit_or x y
within_left x y = same_from_bits (bit_or x (bit_or x y)) (bit_or x y) (λ i. highest (bit_at x i) (bit_at y i) _ _ (bit_at_or x y i) (bit_at_or x (bit_or x y) i))
  where
    highest : (x y o n : ℕ) → o ≡ max x y → n ≡ max x o → n ≡ o
    highest x y o n a b = omega arith

pub within_right : (x y : ℕ) → bit_or y (bit_or x y) ≡ bit_or x y
within_right x y = ap (λ n. bit_or y n) (or_comm x y) ∙ within_left y x ∙ or_comm y x

-- what is within no bits is zero
pub within_none : (x : ℕ) → bit_or x 0 ≡ 0 → x ≡ 0
within_none x h = sym (or_zero_r x) ∙ h

-- the bytes of a number are within those of a number that it is within
pub byte_within : (m : List ℕ) (p : ℕ) → p + 8 ≤ length m → ((k : ℕ) → get_or m k 0 < 256) → (s : ℕ) → bit_or (number_at w64 m p) s ≡ s → (i : ℕ) → i < 8 → bit_or (get_or m (p + i) 0) (s / 2 ^ (8 * i) % 2 ^ 8) ≡ s / 2 ^ (8 * i) % 2 ^ 8
byte_within m p room small s h i lt =
    let x = number_at w64 m p in
    ap (λ b. bit_or b (s / 2 ^ (8 * i) % 2 ^ 8)) (byte_is m p room small i lt) ∙ sym (or_mod (x / 2 ^ (8 * i)) (s / 2 ^ (8 * i)) 8) ∙ ap (λ n. n % 2 ^ 8) (sym (or_shr x s (8 * i))) ∙ ap (λ n. n / 2 ^ (8 * i) % 2 ^ 8) h

-- and where the bytes are, so is their number
pub bits_within : (m : List ℕ) (p s i n : ℕ) → ((k : ℕ) → get_or m k 0 < 256) → ((j : ℕ) → j < n → bit_or (get_or m (p + j) 0) (s / 2 ^ (8 * (i + j)) % 2 ^ 8) ≡ s / 2 ^ (8 * (i + j)) % 2 ^ 8) → bit_or (bits_at m p n) (s / 2 ^ (8 * i) % 2 ^ (8 * n)) ≡ s / 2 ^ (8 * i) % 2 ^ (8 * n)
bits_within m p s i zero small h = or_zero_l (s / 2 ^ (8 * i) % 2 ^ (8 * zero))
bits_within m p s i (suc n) small h =
    let y = s / 2 ^ (8 * i) in
    let sr = s / 2 ^ (8 * (i + 1)) % 2 ^ (8 * n) in
    let sb = y % 2 ^ 8 in
    let b = get_or m p 0 in
    let rest = bits_at m (p + 1) n in
    let next : y / 2 ^ 8 ≡ s / 2 ^ (8 * (i + 1)) = shr-shr s (8 * i) 8 ∙ ap (λ e. s / 2 ^ e) (let e : 8 * i + 8 ≡ 8 * (i + 1) = omega arith in e) in
    let whole : y % 2 ^ (8 * suc n) ≡ sr * 2 ^ 8 + sb = ap (λ e. y % 2 ^ e) (let e : 8 * suc n ≡ 8 * n + 8 = omega arith in e) ∙ mod-pow-add y (8 * n) 8 ∙ ap (λ z. z % 2 ^ (8 * n) * 2 ^ 8 + sb) next in
    let low : bit_or b sb ≡ sb = ap (λ q. bit_or (get_or m q 0) sb) (let e : p ≡ p + 0 = omega arith in e) ∙ ap (λ q. bit_or (get_or m (p + 0) 0) (s / 2 ^ (8 * q) % 2 ^ 8)) (let e : i ≡ i + 0 = omega arith in e)
    ∙ h 0 (omega arith) ∙ ap (λ q. s / 2 ^ (8 * q) % 2 ^ 8) (let e : i + 0 ≡ i = omega arith in e) in
    let high : bit_or rest sr ≡ sr = bits_within m (p + 1) s (i + 1) n small (λ j lt.
    let here : p + suc j ≡ p + 1 + j = omega arith in
    let there : i + suc j ≡ i + 1 + j = omega arith in
    subst (λ q. bit_or (get_or m (p + 1 + j) 0) (s / 2 ^ (8 * q) % 2 ^ 8) ≡ s / 2 ^ (8 * q) % 2 ^ 8) there (subst (λ q. bit_or (get_or m q 0) (s / 2 ^ (8 * (i + suc j)) % 2 ^ 8) ≡ s / 2 ^ (8 * (i + suc j)) % 2 ^ 8) here (h (suc j) (omega (arith, lt))))) in
    let form : b + rest * 256 ≡ rest * 2 ^ 8 + b = omega arith in
    ap (λ z. bit_or z (y % 2 ^ (8 * suc n))) form ∙ ap (λ w. bit_or (rest * 2 ^ 8 + b) w) whole ∙ or_block 8 rest sr b sb (small p) (mod_below y (2 ^ 8) (omega arith)) ∙ ap (λ z. z * 2 ^ 8 + bit_or b sb) high ∙ ap (λ z. sr * 2 ^ 8 + z) low ∙ sym whole

-- bytes whose number is zero are zeros
pub no_bits : (m : List ℕ) (p n : ℕ) → p + n ≤ length m → bits_at m p n ≡ 0 → Stands m p (zeros n)
no_bits m p zero room none = tt
no_bits m p (suc n) room none = (omega (arith, room), omega (arith, none), no_bits m (p + 1) n (omega (arith, room)) (omega (arith, none)))

-- the number of as many bytes as a type has
pub bits_8 : (m : List ℕ) (p : ℕ) → bits_at m p 1 ≡ get_or m p 0
bits_8 m p = omega arith

bits_16 : (m : List ℕ) (p : ℕ) → bits_at m p 2 ≡ number_at w16 m p
bits_16 m p =
    let a0 = byte_of m p (p + 2) 0 p (omega arith) (omega arith) in
    let a1 = byte_of m p (p + 2) 1 (p + 1) (omega arith) refl in
    omega (arith, a0, a1)

bits_32 : (m : List ℕ) (p : ℕ) → bits_at m p 4 ≡ number_at w32 m p
bits_32 m p =
    let a0 = byte_of m p (p + 4) 0 p (omega arith) (omega arith) in
    let a1 = byte_of m p (p + 4) 1 (p + 1) (omega arith) refl in
    let a2 = byte_of m p (p + 4) 2 (p + 1 + 1) (omega arith) (omega arith) in
    let a3 = byte_of m p (p + 4) 3 (p + 1 + 1 + 1) (omega arith) (omega arith) in
    omega (arith, a0, a1, a2, a3)

bits_64 : (m : List ℕ) (p : ℕ) → bits_at m p 8 ≡ number_at w64 m p
bits_64 m p =
    let a0 = byte_of m p (p + 8) 0 p (omega arith) (omega arith) in
    let a1 = byte_of m p (p + 8) 1 (p + 1) (omega arith) refl in
    let a2 = byte_of m p (p + 8) 2 (p + 1 + 1) (omega arith) (omega arith) in
    let a3 = byte_of m p (p + 8) 3 (p + 1 + 1 + 1) (omega arith) (omega arith) in
    let a4 = byte_of m p (p + 8) 4 (p + 1 + 1 + 1 + 1) (omega arith) (omega arith) in
    let a5 = byte_of m p (p + 8) 5 (p + 1 + 1 + 1 + 1 + 1) (omega arith) (omega arith) in
    let a6 = byte_of m p (p + 8) 6 (p + 1 + 1 + 1 + 1 + 1 + 1) (omega arith) (omega arith) in
    let a7 = byte_of m p (p + 8) 7 (p + 1 + 1 + 1 + 1 + 1 + 1 + 1) (omega arith) (omega arith) in
    omega (arith, a0, a1, a2, a3, a4, a5, a6, a7)

no_true : false ≡ true → ⊥
no_true e = cc

-- numbers of a type without a sign are those of their bytes
pub bits_standing : (o : Option EntryKind) → option_map_or is_unsigned o false ≡ true → (m : List ℕ) (p : ℕ) → number_standing (option_map_or as_number o ty.uint8) m p ≡ pos (bits_at m p (byte_len (width (option_map_or as_number o ty.uint8))))
bits_standing None is m p = absurd (no_true is)
bits_standing (Some Uint8) is m p = ap pos (sym (bits_8 m p))
bits_standing (Some Uint16) is m p = ap pos (sym (bits_16 m p))
bits_standing (Some Uint32) is m p = ap pos (sym (bits_32 m p))
bits_standing (Some Uint64) is m p = ap pos (sym (bits_64 m p))
bits_standing (Some k) is m p = absurd (no_true is)

-- the bits of the lowest bytes
pub low_bits : (n wide : ℕ) → wide ≤ 8 → bit_and n (18446744073709551615 / 2 ^ (64 - 8 * wide)) ≡ n % 2 ^ (8 * wide)
low_bits n wide le =
    let a = 8 * wide in
    let k = 64 - 8 * wide in
    let both : a + k ≡ 64 = omega (arith, le) in
    let all : 2 ^ a * 2 ^ k ≡ 18446744073709551616 = sym (pow-add 2 a k) ∙ ap (λ e. 2 ^ e) both in
    let split : 18446744073709551615 ≡ (2 ^ a - 1) * 2 ^ k + (2 ^ k - 1) = ones (2 ^ a) (2 ^ k) (pow_pos a) (pow_pos k) all in
    let ones_low : 18446744073709551615 / 2 ^ k ≡ 2 ^ a - 1 = ap (λ x. x / 2 ^ k) split ∙ shr_high (2 ^ a - 1) k (2 ^ k - 1) (omega (arith, pow_pos k)) in
    ap (λ x. bit_and n x) ones_low ∙ and_mask n a
  where
    ones : (p q : ℕ) → 0 < p → 0 < q → p * q ≡ 18446744073709551616 → 18446744073709551615 ≡ (p - 1) * q + (q - 1)
    ones zero q some more all = absurd (omega (arith, some))
    ones (suc p) q some more all = let whole : suc p * q ≡ p * q + q = omega arith in let less : (suc p - 1) * q ≡ p * q = ap (λ n. n * q) (let e : suc p - 1 ≡ p = omega arith in e) in omega (arith, all, more, whole, less)

pub some_bytes : (w : Width) → 0 < byte_len w
some_bytes w8 = omega arith
some_bytes w16 = omega arith
some_bytes w32 = omega arith
some_bytes w64 = omega arith
some_bytes w128 = omega arith
