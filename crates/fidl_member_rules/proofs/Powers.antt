-- Powers of two.
use Rattle.std.proofs.Common.{◌≡◌, ◌<◌, ◌≤◌, ◌+◌, ◌*◌, ◌^◌, ◌⊎◌, ℕ, zero, suc, true, false, refl, ap, sym, ◌∙◌, subst, inl, inr, arith, true≢false}
use Rattle.std.specs.Prelude.{ℤ, pos, negsuc}
use Rattle.std.proofs.Math.Nat.{two-pow-succ}
use Rattle.std.proofs.Math.Pow.{pow-lt}
use Rattle.std.proofs.lemmas.Bool.{cases_lt, cases_order}
use Rattle.std.proofs.lemmas.Int.{to_z-of_z, ints}
use lib.IntN.{nat_abs}
use lib.Signed.{lt_z, mag}
use mir.Val.{SFits, of_z, to_z}
use mir.Syntax.{w128}
use Rattle.fidl_member_rules.specs.Numbers.{IsPowerOfTwo}

pub not_three : (k : ℕ) → pos 3 ≡ pos (2 ^ k) → ⊥
not_three zero e = let h : ◌≡◌ {A = ℕ} 3 1 = cc in omega (arith, h)
not_three (suc k) e = let h : ◌≡◌ {A = ℕ} 3 (2 ^ suc k) = cc in let s = two-pow-succ k in omega (arith, h, s)

-- the next power
pub twice : (e power : ℕ) → power ≡ 2 ^ e → power * 2 ≡ 2 ^ (e + 1)
twice e power is =
    let s : 2 ^ suc e ≡ 2 ^ e + 2 ^ e = two-pow-succ e in
    let next : suc e ≡ e + 1 = omega arith in
    let same : 2 ^ suc e ≡ 2 ^ (e + 1) = ap (λ n. 2 ^ n) next in
    omega (arith, is, s, same)

pub low_power : (e power : ℕ) → power ≡ 2 ^ e → e < 127 → power * 2 < 2 ^ 128
low_power e power is lt = let h : 2 ^ e < 2 ^ 127 = pow-lt lt in omega (arith, is, h)

pub none_more : (wanted power e : ℕ) → power ≡ 2 ^ e → (power ≡ wanted → ⊥) → ((k : ℕ) → k < e → wanted ≡ 2 ^ k → ⊥) → (k : ℕ) → k < e + 1 → wanted ≡ 2 ^ k → ⊥
none_more wanted power e is other none k lt found = by (cases_lt k e)
  where
    by : (k < e) ⊎ (e ≤ k) → ⊥
    by (inl less) = none k less found
    by (inr more) = let same : e ≡ k = omega (arith, lt, more) in other (is ∙ ap (λ n. 2 ^ n) same ∙ sym found)

-- a number that is not negative is its size
size_is : (z : ℤ) → lt_z z (pos 0) ≡ false → z ≡ pos (nat_abs z)
size_is (pos n) h = refl
size_is (negsuc n) h = absurd (true≢false h)

module _ (z : ℤ) (fits : SFits w128 z) (not_negative : lt_z (to_z w128 (of_z w128 z)) (pos 0) ≡ false) where
  pub its_size : z ≡ pos (nat_abs (to_z w128 (of_z w128 z)))
  its_size = sym (to_z-of_z w128 z fits) ∙ size_is (to_z w128 (of_z w128 z)) not_negative

  pub its_power : (e : ℕ) → nat_abs (to_z w128 (of_z w128 z)) ≡ 2 ^ e → IsPowerOfTwo z
  its_power e is = (e, its_size ∙ ap pos is)

  size_of : (e : ℕ) → z ≡ pos (2 ^ e) → nat_abs (to_z w128 (of_z w128 z)) ≡ 2 ^ e
  size_of e is = let both : pos (nat_abs (to_z w128 (of_z w128 z))) ≡ pos (2 ^ e) = sym its_size ∙ is in cc

  low_exponent : (e : ℕ) → z ≡ pos (2 ^ e) → e < 127
  low_exponent e is = below (cases_lt e 127)
    where
      low : 2 ^ e < 2 ^ 127
      low = subst (λ (y : ℤ). mag y < 2 ^ 127) is fits.sfits

      below : (e < 127) ⊎ (127 ≤ e) → e < 127
      below (inl less) = less
      below (inr more) = absurd (no_more (cases_order 127 e))
        where
          no_more : (127 ≡ e) ⊎ ((127 < e) ⊎ (e < 127)) → ⊥
          no_more (inl same) = let h : 2 ^ 127 ≡ 2 ^ e = ap (λ n. 2 ^ n) same in omega (arith, h, low)
          no_more (inr (inl less)) = let h : 2 ^ 127 < 2 ^ e = pow-lt less in omega (arith, h, low)
          no_more (inr (inr less)) = omega (arith, less, more)

  pub no_power : ((k : ℕ) → k < 127 → nat_abs (to_z w128 (of_z w128 z)) ≡ 2 ^ k → ⊥) → IsPowerOfTwo z → ⊥
  no_power none h = none h.0 (low_exponent h.0 h.1) (size_of h.0 h.1)

not_below : (n : ℕ) → lt_z (pos n) (pos 0) ≡ true → ⊥
not_below n h = omega (arith, ints, h)

-- a negative number is none
pub negative_none : (z : ℤ) → SFits w128 z → lt_z (to_z w128 (of_z w128 z)) (pos 0) ≡ true → IsPowerOfTwo z → ⊥
negative_none z fits negative h =
    let is : lt_z (pos (2 ^ h.0)) (pos 0) ≡ true = subst (λ (y : ℤ). lt_z y (pos 0) ≡ true) h.1 (subst (λ (y : ℤ). lt_z y (pos 0) ≡ true) (to_z-of_z w128 z fits) negative) in
    not_below (2 ^ h.0) is
