-- Worked envelopes: what their numbers can hold.
use Rattle.std.proofs.Common.{◌≡◌, ℕ, ◌<◌, List, [], ◌∷◌, ◌++◌, Some, None, refl, arith, inl, inr}
use Rattle.fidl_wire.specs.Term.{uint32, uint64}
use Rattle.fidl_wire.specs.Term as ty
use Rattle.fidl_wire.specs.Figure.{no_declarations}
use Rattle.fidl_wire.specs.Encoding.{zeros}
use Rattle.fidl_decode_model.specs.Envelopes.{CanHold}

abbrev eight : List ℕ
eight = 8 ∷ zeros 7

pub no_four : CanHold no_declarations eight (Some (ty.number uint32)) 0 → ⊥
no_four h = elim h [ inl i ↦ (let e : 0 ≡ 1 = i.0 in omega (arith, e)) | inr o ↦ (let e : 4 < 4 = o.2 in omega (arith, e)) ]

pub one_eight : CanHold no_declarations eight (Some (ty.number uint64)) 0
one_eight = inr (refl, (omega arith, refl), omega arith)

pub any_eight : CanHold no_declarations eight None 0
any_eight = inr (refl, (omega arith, refl), tt)

pub no_part : CanHold no_declarations (4 ∷ zeros 7) None 0 → ⊥
no_part h = elim h [ inl i ↦ (let e : 0 ≡ 1 = i.0 in omega (arith, e)) | inr o ↦ (let e : 4 ≡ 0 = o.1.1 in omega (arith, e)) ]

pub no_flags : CanHold no_declarations (zeros 6 ++ 2 ∷ 0 ∷ []) None 0 → ⊥
no_flags h = elim h [ inl i ↦ (let e : 2 ≡ 1 = i.0 in omega (arith, e)) | inr o ↦ (let e : 2 ≡ 0 = o.0 in omega (arith, e)) ]
