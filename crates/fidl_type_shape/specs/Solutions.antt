-- Figures of some of the definitions: the equations of these hold (docs/language.md, "Figures").
use Rattle.std.specs.Prelude.{ℕ, ◌≡◌, Bool, true, ◌&&◌, IsTrue, List, get_or}
use Rattle.fidl_wire.specs.Term.{Term, Fields, no_fields, field, nothing}
use Rattle.fidl_wire.specs.Term as ty
use Rattle.fidl_wire.specs.Figure.{Figure, figure, figure_of}

-- the names that stand inline in a term are all among the chosen ones
abbrev mutual
  pub is_settled : (chosen : List Bool) → Term → Bool
  is_settled chosen (ty.array t n) = is_settled chosen t
  is_settled chosen (ty.struct fs) = are_settled chosen fs
  is_settled chosen (ty.named i) = get_or chosen i true
  is_settled chosen _ = true

  pub are_settled : (chosen : List Bool) → Fields → Bool
  are_settled chosen no_fields = true
  are_settled chosen (field name t fs) = is_settled chosen t && are_settled chosen fs

-- a chosen definition has only chosen ones inline, and its figure solves its equation
pub record IsSolved (terms : List Term) (figures : List Figure) (chosen : List Bool) (i : ℕ) : Type
    0 where
  pub settled : IsTrue (is_settled chosen (get_or terms i nothing))
  pub solves : figure_of figures (get_or terms i nothing) ≡ get_or figures i (figure 1 1 0)

-- the figures of the chosen definitions solve their equations
abbrev pub Solve : (terms : List Term) (figures : List Figure) (chosen : List Bool) → Type 0
Solve terms figures chosen =
    (i : ℕ) → IsTrue (get_or chosen i true) → IsSolved terms figures chosen i
