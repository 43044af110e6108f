use Rattle.std.proofs.Common.{arith}
use Rattle.fidl_type_shape.proofs.Chains.{bools_counted}
use Rattle.fidl_type_shape.proofs.worked.limits_of_declarations.Goals as goal

pub returns-clause-many : goal.returns-clause-many
returns-clause-many c n more h = omega (arith, more, h.members.0, bools_counted n)
