use Rattle.std.proofs.Common.{ap, refl, arith}
use Rattle.fidl_wire.specs.Figure.{Figure}
use Rattle.fidl_type_shape.proofs.worked.figures_of_some_definitions.Goals as goal

pub returns-clause-other : goal.returns-clause-other
returns-clause-other c h = let e = ap (λ (f : Figure). f.size) (h 0 refl).solves in omega (arith, e)

pub returns-clause-of_both : goal.returns-clause-of_both
returns-clause-of_both c h = let e = ap (λ (f : Figure). f.nest) (h 1 refl).solves in omega (arith, e)
