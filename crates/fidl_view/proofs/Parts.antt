-- The parts of an array that are left.
use Rattle.std.proofs.Common.{◌≡◌, ℕ, zero, suc, ◌+◌, ◌-◌, ◌∷◌, ap, subst, arith}
use Rattle.fidl_wire.specs.Value.{Values, none, value}
use Rattle.fidl_decode_model.specs.Model.{Shown}
use Rattle.fidl_view.specs.Elements.{part, parts_from, ShowEach, HaveValues}
use Rattle.fidl_view.specs.Shows.{HasValue}

-- the first part, and the others
pub parts_next : (d : Shown) (index size place n : ℕ) → (n ≡ 0 → ⊥) → parts_from d index size place n ≡ part d index place ∷ parts_from d index size (place + size) (n - 1)
parts_next d index size place zero some = absurd (some (omega arith))
parts_next d index size place (suc n) some =
    let e : n ≡ suc n - 1 = omega arith in
    ap (λ k. part d index place ∷ parts_from d index size (place + size) k) e

-- the first part shows a value, and so do the others
pub first_shown : (d : Shown) (index size place n : ℕ) → (n ≡ 0 → ⊥) → HaveValues (parts_from d index size place n) → HasValue d index place × HaveValues (parts_from d index size (place + size) (n - 1))
first_shown d index size place zero some h = absurd (some (omega arith))
first_shown d index size place (suc n) some h = go h.0 h.1
  where
    go : (vs : Values) → ShowEach (parts_from d index size place (suc n)) vs → HasValue d index place × HaveValues (parts_from d index size (place + size) (suc n - 1))
    go none x = absurd x
    go (value v vs) x = let e : n ≡ suc n - 1 = omega arith in ((v, x.0), (vs, subst (λ k. ShowEach (parts_from d index size (place + size) k) vs) e x.1))
