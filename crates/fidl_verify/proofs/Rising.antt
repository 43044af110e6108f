-- The names of roots and of protocols rise one by one.
use Rattle.std.proofs.Common.{◌≡◌, ◌≢◌, ◌↔◌, ℕ, suc, ◌-◌, ◌<◌, ◌≤◌, List, Bool, IsTrue, inl, inr, subst, sym, arith}
use Rattle.fidl_table_format.specs.Root.{IsBefore}
use Rattle.fidl_verify.proofs.Stated.{or_last}

-- the one name before is that of the record before
pub rises_from : (name : ℕ → List ℕ) (index : ℕ) (a b : List ℕ) (r : Bool) → index ≢ 0 → a ≡ name (index - 1) → b ≡ name index
    → (IsTrue r ↔ IsBefore a b) → (IsTrue r ↔ ((before : ℕ) → suc before ≡ index → IsBefore (name before) (name index)))
rises_from name index a b r some p q both = (
  λ t before e.
      let k : index - 1 ≡ before = omega (arith, e) in
      subst (λ n. IsBefore (name n) (name index)) k (subst (λ x. IsBefore x (name index)) p (subst (λ y. IsBefore a y) q (both.0 t))),
  λ rises.
      let e : suc (index - 1) ≡ index = omega (arith, some) in
      both.1 (subst (λ y. IsBefore a y) (sym q) (subst (λ x. IsBefore x (name index)) (sym p) (rises (index - 1) e))),
)

-- what holds before a number and at it
pub up_to : (P : ℕ → Type 0) (index : ℕ) → ((k : ℕ) → k < index → P k) → P index → (k : ℕ) → k ≤ index → P k
up_to P index before here k p = elim (or_last k index (omega (arith, p))) [ inl q ↦ before k q | inr e ↦ subst P (sym e) here ]
