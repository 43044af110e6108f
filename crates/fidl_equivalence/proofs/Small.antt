-- Small types that are alike, or not.
use Rattle.std.proofs.Common.{◌≡◌, ℕ, zero, suc, ◌↔◌, ℤ, pos, List, [], ◌∷◌, Option, Some, is_some, Contains, refl, arith}
use Rattle.fidl_wire.specs.Term.{Term, Rows}
use Rattle.fidl_wire.specs.Term as ty
use Rattle.fidl_equivalence.specs.Alike.{Alike, AlikeValues, AlikeMember, AlikeRows, AlikeTo, strict, missing, there}
use Rattle.fidl_equivalence.specs.Alike as like
use Rattle.fidl_equivalence.specs.Samples.{holding_itself}

-- a struct that holds itself is alike to itself at each level, and so is its box
mutual
  pub itself : (n : ℕ) → AlikeTo (holding_itself 0) (holding_itself 0) n (ty.named 0) (ty.named 0)
  itself zero = tt
  itself (suc n) = like.struct (like.field refl (boxed n) like.no_fields)

  boxed : (n : ℕ) → AlikeTo (holding_itself 0) (holding_itself 0) n (ty.box (ty.named 0)) (ty.box (ty.named 0))
  boxed zero = tt
  boxed (suc n) = like.box (itself n)

pub rows_of : {R : Term → Term → Type 0} {a b : Rows} → Alike R (ty.table a) (ty.table b) → AlikeRows R a b
rows_of (like.table h) = h

pub same_presence : {R : Term → Term → Type 0} {o p : Option Term} → AlikeMember R o p → is_some o ≡ is_some p
same_presence missing = refl
same_presence (there r) = refl

pub listed : {zs ws : List ℤ} → AlikeValues (Some zs) (Some ws) → (z : ℤ) → Contains zs z ↔ Contains ws z
listed (strict h) = h

pub turned : (a b z : ℤ) → Contains (a ∷ b ∷ []) z → Contains (b ∷ a ∷ []) z
turned a b z (zero, p, e) = (1, omega arith, e)
turned a b z (suc zero, p, e) = (0, omega arith, e)
turned a b z (suc (suc k), p, e) = absurd (omega (arith, p))

pub no_other : Contains (pos 2 ∷ []) (pos 1) → ⊥
no_other (zero, p, e) = let two : pos 2 ≡ pos 1 = e in cc
no_other (suc k, p, e) = omega (arith, p)
