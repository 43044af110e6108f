-- A struct that names another in a vector is small and shallow, whatever the other is.
use Rattle.std.proofs.Common.{◌≤◌, zero, suc, false, List, sym, subst, arith}
use Rattle.std.specs.List.{Contains}
use Rattle.fidl_wire.specs.Term.{Term, IsNoName}
use Rattle.fidl_wire.specs.Term as ty
use Rattle.fidl_wire.specs.Figure.{Figure, figure_of}
use Rattle.fidl_type_shape.specs.Limits.{parts}
use Rattle.fidl_type_shape.specs.Samples.{holding}

abbrev pub Holder : Term
Holder = holding (ty.vector false 2 (ty.named 1))

pub record IsLittle (f : Figure) : Type 0 where
  pub small : f.size ≤ 16
  pub shallow : f.nest ≤ 1

pub little : (figures : List Figure) (part : Term) → Contains (parts Holder) part → IsNoName part → IsLittle (figure_of figures part)
little figures part (zero, within, is) own = subst (λ (t : Term). IsLittle (figure_of figures t)) is (record { small = omega arith; shallow = omega arith })
little figures part (suc zero, within, is) own = subst (λ (t : Term). IsLittle (figure_of figures t)) is (record { small = omega arith; shallow = omega arith })
little figures part (suc (suc zero), within, is) own = absurd (subst IsNoName (sym is) own)
little figures part (suc (suc (suc k)), within, is) own = absurd (omega (arith, within))
