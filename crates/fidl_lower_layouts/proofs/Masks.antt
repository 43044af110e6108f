-- The mask of numbers, one more and the one at a place.
use Rattle.std.proofs.Common.{◌≡◌, ◌<◌, ◌+◌, ◌^◌, ℕ, true, false, true≢false, take, zero, suc, ℤ, List, [], ◌∷◌, ◌++◌, Some, length, map, get_or, refl, ap, sym, subst, ◌∙◌, arith}
use Rattle.std.specs.Prelude.{pos, negsuc, bit_or, slice_get}
use Rattle.std.specs.List.{AllByRecursion}
use Rattle.std.proofs.lemmas.Int.{ints}
use Rattle.std.proofs.lemmas.List.{map-append}
use Rattle.std.proofs.lemmas.Nat.{or_comm}
use Rattle.std.proofs.lemmas.Option.{same_Some, none-some, slice_get-get_or}
use lib.IntN.{nat_abs}
use lib.Signed.{lt_z}
use Rattle.fidl_cycles.proofs.Lists.{take_item}
use Rattle.fidl_lower_layouts.specs.Values.{or_all, IsMaskOf}
use Rattle.fidl_lower_layouts.proofs.Ors.{or_assoc}

or_push : (ns : List ℕ) (n : ℕ) → or_all (ns ++ n ∷ []) ≡ bit_or (or_all ns) n
or_push [] n = or_comm n 0
or_push (m ∷ ms) n = ap (bit_or m) (or_push ms n) ∙ sym (or_assoc n m (or_all ms))

low_push : (ns : List ℕ) (n : ℕ) → AllByRecursion (λ k. k < 2 ^ 64) ns → n < 2 ^ 64 → AllByRecursion (λ k. k < 2 ^ 64) (ns ++ n ∷ [])
low_push [] n h low = (low, tt)
low_push (m ∷ ms) n h low = (h.0, low_push ms n h.1 low)

pub no_mask : IsMaskOf [] 0
no_mask = record { words = []; same = refl; low = tt; is = refl }

pub mask_push : (zs : List ℤ) (mask n : ℕ) → IsMaskOf zs mask → n < 2 ^ 64 → IsMaskOf (zs ++ pos n ∷ []) (bit_or mask n)
mask_push zs mask n h low = record {
  words = h.words ++ n ∷ [];
  same = ap (λ l. l ++ pos n ∷ []) h.same ∙ sym (map-append pos h.words (n ∷ []));
  low = low_push h.words n h.low low;
  is = ap (λ m. bit_or m n) h.is ∙ sym (or_push h.words n);
}

-- a number that has a mask with others is one of 64 bits
abbrev pub IsWord : ℤ → Type 0
IsWord z = (n : ℕ) × ((z ≡ pos n) × (n < 2 ^ 64))

word_at : (ns : List ℕ) (k : ℕ) (z : ℤ) → AllByRecursion (λ n. n < 2 ^ 64) ns → slice_get (map pos ns) k ≡ Some z → IsWord z
word_at [] k z h at = absurd (none-some z at)
word_at (n ∷ ns) zero z h at = (n, (sym (same_Some (pos n) z at), h.0))
word_at (n ∷ ns) (suc k) z h at = word_at ns k z h.1 at

pub word_there : (zs : List ℤ) (i : ℕ) (z : ℤ) → i < length zs → z ≡ get_or zs i z → (mask : ℕ) → IsMaskOf zs mask → IsWord z
word_there zs i z lt is mask h =
    word_at h.words i z h.low (subst (λ l. slice_get l i ≡ Some z) h.same (slice_get-get_or zs i z lt ∙ ap Some (sym is)))

pub one_and_four : IsMaskOf (pos 1 ∷ pos 4 ∷ []) 5
one_and_four = record { words = 1 ∷ 4 ∷ []; same = refl; low = (omega arith, (omega arith, tt)); is = refl }

-- numbers of 64 bits, as the code tests them
size_is : (z : ℤ) → lt_z z (pos 0) ≡ false → z ≡ pos (nat_abs z)
size_is (pos n) h = refl
size_is (negsuc n) h = absurd (true≢false h)

below : (z : ℤ) → lt_z z (pos 0) ≡ false → lt_z (pos 18446744073709551615) z ≡ false → nat_abs z < 2 ^ 64
below (pos n) h k = omega (arith, ints, k)
below (negsuc n) h k = absurd (true≢false h)

pub not_negative : (z : ℤ) → IsWord z → lt_z z (pos 0) ≡ true → ⊥
not_negative z word h = let is = subst (λ (y : ℤ). lt_z y (pos 0) ≡ true) word.1.0 h in omega (arith, ints, is)

pub not_high : (z : ℤ) → IsWord z → lt_z (pos 18446744073709551615) z ≡ true → ⊥
not_high z word h = let is = subst (λ (y : ℤ). lt_z (pos 18446744073709551615) y ≡ true) word.1.0 h in let low = word.1.1 in omega (arith, ints, is, low)

pub mask_more : (zs : List ℤ) (i : ℕ) (z : ℤ) → i < length zs → z ≡ get_or zs i z → (mask : ℕ) → IsMaskOf (take i zs) mask → lt_z z (pos 0) ≡ false → lt_z (pos 18446744073709551615) z ≡ false → IsMaskOf (take (i + 1) zs) (bit_or mask (nat_abs z))
mask_more zs i z lt is mask h plus low =
    subst (λ l. IsMaskOf l (bit_or mask (nat_abs z))) (sym (take_item zs i z lt is ∙ ap (λ (y : ℤ). take i zs ++ y ∷ []) (size_is z plus))) (mask_push (take i zs) mask (nat_abs z) h (below z plus low))
