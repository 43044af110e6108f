-- One bit of a list of bytes is set, and the bits of eight bytes that are 0 as one number.
use Rattle.std.proofs.Common.{◌≡◌, ◌≢◌, ℕ, zero, suc, ◌+◌, ◌*◌, ◌/◌, ◌%◌, ◌^◌, ◌<◌, ◌⊎◌, ◌++◌, inl, inr, List, length, take, drop, get_or, slice_set, bit_or, w8, w64, refl, sym, ap, ◌∙◌, arith, get_or-set_same, get_or-set_other}
use Rattle.std.specs.Int.{bit_at}
use Rattle.std.proofs.lemmas.Nat.Bits.{bit_at-zero, bit_at_set_same, bit_at_set_other}
use Rattle.std.proofs.lemmas.Bool.{cases_eq}
use Rattle.std.proofs.lemmas.List.{take_at}
use Rattle.fidl_wire.specs.Field.{number_at}
use Rattle.fidl_links.specs.Bits.{bit}
use Rattle.fidl_links.specs.Marks.{Marks}
use Rattle.fidl_links.proofs.Numbers.{byte_of}

abbrev pub with_bit : List ℕ → (i b : ℕ) → List ℕ
with_bit bytes i b = slice_set bytes i (bit_or (get_or bytes i 0) (1 * 2 ^ b % 2 ^ 8))

pub bit_here : (bytes : List ℕ) (i b : ℕ) → i < length bytes → b < 8 → bit (with_bit bytes i b) i b ≡ 1
bit_here bytes i b h eight =
    let x = bit_or (get_or bytes i 0) (1 * 2 ^ b % 2 ^ 8) in
    ap (λ n. bit_at n b) (get_or-set_same bytes i x 0 h) ∙ bit_at_set_same w8 (get_or bytes i 0) b eight

pub bit_elsewhere : (bytes : List ℕ) (i b : ℕ) → i < length bytes → b < 8 → (j d : ℕ) → (j ≢ i) ⊎ (d ≢ b) → bit (with_bit bytes i b) j d ≡ bit bytes j d
bit_elsewhere bytes i b h eight j d ne =
    let n = get_or bytes i 0 in
    let x = bit_or n (1 * 2 ^ b % 2 ^ 8) in
    elim (cases_eq j i) [
      | inr far ↦ ap (λ n. bit_at n d) (get_or-set_other bytes i j x 0 far)
      | inl near ↦
          ap (λ k. bit_at (get_or (with_bit bytes i b) k 0) d) near
          ∙ ap (λ n. bit_at n d) (get_or-set_same bytes i x 0 h)
          ∙ bit_at_set_other w8 n b eight d (other near ne)
          ∙ ap (λ k. bit_at (get_or bytes k 0) d) (sym near)
    ]
  where
    other : j ≡ i → (j ≢ i) ⊎ (d ≢ b) → d ≢ b
    other e (inl far) = absurd (far e)
    other e (inr near) = near

-- the bytes of a room, where a borrow of all of them is written back
pub written_back : (n : ℕ) (now after items : List ℕ) → length after ≡ length now → length now ≡ n → take n (after ++ drop (length after) items) ≡ after
written_back n now after items len long = take_at after (drop (length after) items) n (len ∙ long)

pub refilled : (n : ℕ) (now after items marks : List ℕ) → length after ≡ length now → length now ≡ n → now ≡ items → items ≡ marks → (j b : ℕ) → bit after j b ≡ bit now j b
    → bit (take n (after ++ drop (length after) items)) j b ≡ bit marks j b
refilled n now after items marks len long lent is j b same =
    ap (λ l. bit l j b) (written_back n now after items len long) ∙ same ∙ ap (λ l. bit l j b) (lent ∙ is)

-- two halves of words are not one half, or not of one word
pub apart : (j k : ℕ) → j ≢ k → (j / 2 ≢ k / 2) ⊎ (2 + j % 2 ≢ 2 + k % 2)
apart j k ne = elim (cases_eq (j / 2) (k / 2)) [ inl e ↦ inr (λ r. ne (omega (arith, e, r))) | inr n ↦ inl n ]

-- eight bytes are 0 where they are 0 as one number
zero_byte : (m : List ℕ) (p j k : ℕ) → number_at w64 m p ≡ 0 → j < 8 → p + j ≡ k → get_or m k 0 ≡ 0
zero_byte m p j k e lt at = ap (λ n. get_or m n 0) (sym at) ∙ of j lt
  where
    go : (j : ℕ) → j < 8 → get_or m (p + 0) 0 ≡ 0 → get_or m (p + 1) 0 ≡ 0 → get_or m (p + 2) 0 ≡ 0 → get_or m (p + 3) 0 ≡ 0
        → get_or m (p + 4) 0 ≡ 0 → get_or m (p + 5) 0 ≡ 0 → get_or m (p + 6) 0 ≡ 0 → get_or m (p + 7) 0 ≡ 0 → get_or m (p + j) 0 ≡ 0
    go zero lt a b c d e f g h = a
    go (suc zero) lt a b c d e f g h = b
    go (suc (suc zero)) lt a b c d e f g h = c
    go (suc (suc (suc zero))) lt a b c d e f g h = d
    go (suc (suc (suc (suc zero)))) lt a b c d e f g h = e
    go (suc (suc (suc (suc (suc zero))))) lt a b c d e f g h = f
    go (suc (suc (suc (suc (suc (suc zero)))))) lt a b c d e f g h = g
    go (suc (suc (suc (suc (suc (suc (suc zero))))))) lt a b c d e f g h = h
    go (suc (suc (suc (suc (suc (suc (suc (suc j)))))))) lt a b c d e f g h = absurd (omega (arith, lt))

    of : (j : ℕ) → j < 8 → get_or m (p + j) 0 ≡ 0
    of j lt =
        let b0 = byte_of m p (p + 8) 0 (p + 0) (omega arith) refl in
        let b1 = byte_of m p (p + 8) 1 (p + 1) (omega arith) refl in
        let b2 = byte_of m p (p + 8) 2 (p + 2) (omega arith) refl in
        let b3 = byte_of m p (p + 8) 3 (p + 3) (omega arith) refl in
        let b4 = byte_of m p (p + 8) 4 (p + 4) (omega arith) refl in
        let b5 = byte_of m p (p + 8) 5 (p + 5) (omega arith) refl in
        let b6 = byte_of m p (p + 8) 6 (p + 6) (omega arith) refl in
        let b7 = byte_of m p (p + 8) 7 (p + 7) (omega arith) refl in
        go j lt (omega (arith, e, b0)) (omega (arith, e, b1)) (omega (arith, e, b2)) (omega (arith, e, b3)) (omega (arith, e, b4)) (omega (arith, e, b5)) (omega (arith, e, b6)) (omega (arith, e, b7))

pub zero_bits : (m : Marks) (n q b : ℕ) → number_at w64 m (8 * n) ≡ 0 → q / 8 ≡ n → bit m q b ≡ 0
zero_bits m n q b e at = ap (λ x. bit_at x b) (zero_byte m (8 * n) (q % 8) q e (omega arith) (omega (arith, at))) ∙ bit_at-zero b
