-- Facts of each row of a range, which begins at `first` and has `count` rows.
use Rattle.std.proofs.Common.{◌≡◌, ℕ, ◌+◌, ◌-◌, ◌<◌, ◌≤◌, inl, inr, subst, sym, arith}
use Rattle.fidl_verify.proofs.Stated.{or_last}

-- a row of the range
pub of_range : (P : ℕ → Type 0) (first count row : ℕ) → first ≤ row → row < first + count → ((k : ℕ) → k < count → P (first + k)) → P row
of_range P first count row low high all =
    let e : first + (row - first) ≡ row = omega (arith, low) in
    subst P e (all (row - first) (omega (arith, low, high)))

-- one more row
pub one_more : (P : ℕ → Type 0) (first row : ℕ) → ((k : ℕ) → first + k < row → P (first + k)) → P row → (k : ℕ) → first + k < row + 1 → P (first + k)
one_more P first row all here k p =
    elim (or_last (first + k) row (omega (arith, p))) [ inl q ↦ all k q | inr e ↦ subst P (sym e) here ]
