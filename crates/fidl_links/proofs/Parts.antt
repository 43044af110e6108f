-- Words of lists that are alike at eight places.
use Rattle.std.proofs.Common.{◌≡◌, ◌≢◌, ℕ, ◌+◌, ◌*◌, ◌/◌, ◌%◌, ◌^◌, ◌<◌, ◌≤◌, List, length, get_or, slice_range, sym, ap, subst, ◌∙◌, arith, ◌⊎◌, inl, inr}
use Rattle.std.specs.Int.{from_le_bytes, to_le_bytes, w64}
use Rattle.std.proofs.lemmas.Nat.{from_le_bytes-to_le_bytes_8}
use Rattle.std.proofs.lemmas.List.{same_lists, get_or_default}
use Rattle.std.proofs.lemmas.List.Edits.{get_or-between, length-between}
use Rattle.fidl_links.specs.Words.{word}

pub number_there : (bs : List ℕ) (i n : ℕ) → slice_range bs (8 * i) (8 * i + 8) ≡ to_le_bytes w64 n → n < 2 ^ 64 → word bs i ≡ n
unfolding word
number_there bs i n e h = ap (from_le_bytes w64) e ∙ from_le_bytes-to_le_bytes_8 n h

-- the same of the word that stands at a place
pub number_at_place : (bs : List ℕ) (at n : ℕ) → at % 8 ≡ 0 → slice_range bs at (at + 8) ≡ to_le_bytes w64 n → n < 2 ^ 64 → word bs (at / 8) ≡ n
number_at_place bs at n eights e h =
    let is : at ≡ 8 * (at / 8) = omega (arith, eights) in
    number_there bs (at / 8) n (subst (λ p. slice_range bs p (p + 8) ≡ to_le_bytes w64 n) is e) h

pub word_alike : (xs ys : List ℕ) (j : ℕ) → slice_range xs (8 * j) (8 * j + 8) ≡ slice_range ys (8 * j) (8 * j + 8) → word xs j ≡ word ys j
unfolding word
word_alike xs ys j e = ap (from_le_bytes w64) e

-- parts of two lists that have the same elements there
pub part_alike : (xs ys : List ℕ) (a b : ℕ) → length xs ≡ length ys → b ≤ length ys → ((k : ℕ) → a ≤ k → k < b → get_or xs k 0 ≡ get_or ys k 0) → slice_range xs a b ≡ slice_range ys a b
part_alike xs ys a b same room each =
    let one = length-between xs a b (omega (arith, same, room)) in
    let two = length-between ys a b room in
    same_lists _ _ (one ∙ sym two) (λ k d lt.
    let in_b : a + k < b = omega (arith, lt, one) in
    get_or-between xs a b k d in_b
    ∙ get_or_default xs (a + k) d 0 (omega (arith, in_b, same, room))
    ∙ each (a + k) (omega arith) in_b
    ∙ get_or_default ys (a + k) 0 d (omega (arith, in_b, room))
    ∙ sym (get_or-between ys a b k d in_b))

-- a word other than the one that was written
pub other_word : (xs ys : List ℕ) (i j : ℕ) → length xs ≡ length ys → 8 * j + 8 ≤ length ys → j ≢ i
    → ((k : ℕ) → k < 8 * i → get_or xs k 0 ≡ get_or ys k 0) → ((k : ℕ) → 8 * i + 8 ≤ k → get_or xs k 0 ≡ get_or ys k 0) → word xs j ≡ word ys j
other_word xs ys i j same room ne below above =
    word_alike xs ys j (part_alike xs ys (8 * j) (8 * j + 8) same room (λ k ge lt. elim (outside k ge lt) [ inl x ↦ below k x | inr y ↦ above k y ]))
  where
    outside : (k : ℕ) → 8 * j ≤ k → k < 8 * j + 8 → (k < 8 * i) ⊎ (8 * i + 8 ≤ k)
    outside k ge lt = elim (far (j) (i) ne) [ inl x ↦ inl (omega arith) | inr y ↦ inr (omega arith) ]
      where
        far : (a b : ℕ) → a ≢ b → (a < b) ⊎ (b < a)
        far a b ne = grind (arith, ne)
