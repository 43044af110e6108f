use Rattle.std.proofs.Common.{◌≡◌, Option, refl, ap, unwrap_or, arith}
use Rattle.fidl_wire.specs.Term.{Term}
use Rattle.fidl_wire.specs.Term as ty
use Rattle.fidl_type_shape.specs.Limits.{member_count}
use Rattle.fidl_type_shape.specs.Samples.{bools}
use Rattle.fidl_type_shape.proofs.Chains.{bools_counted}
use Rattle.fidl_type_shape.proofs.worked.definitions_with_many_members.Goals as goal

pub returns-clause-refused : goal.returns-clause-refused
returns-clause-refused c n more = record { definition = ty.struct (bools n); stands = refl; many = omega (arith, more, bools_counted n) }

pub returns-clause-last : goal.returns-clause-last
returns-clause-last c n few h =
    let same : ty.struct (bools n) ≡ h.definition = ap (λ (o : Option Term). unwrap_or o h.definition) h.stands in
    let e = ap member_count same in
    omega (arith, few, h.many, e, bools_counted n)
