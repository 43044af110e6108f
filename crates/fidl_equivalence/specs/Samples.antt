-- Declarations and relations for worked facts.
use Rattle.std.specs.Prelude.{◌≡◌, ℕ, [], ◌∷◌, codes}
use Rattle.fidl_wire.specs.Term.{Term, no_fields, field}
use Rattle.fidl_wire.specs.Term as ty
use Rattle.fidl_wire.specs.Figure.{Declarations, figure}

-- one and the same
abbrev pub Same : Term → Term → Type 0
Same t u = t ≡ u

-- the declaration of a struct with a box of the declaration of this number
abbrev pub holding_itself : (number : ℕ) → Declarations
holding_itself number = record {
  terms = ty.struct (field (codes "next") (ty.box (ty.named number)) no_fields) ∷ [];
  figures = figure 8 8 1 ∷ [];
}
