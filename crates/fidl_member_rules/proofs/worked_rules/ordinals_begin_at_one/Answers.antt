use Rattle.std.proofs.Common.{◌≡◌, refl, ap, arith}
use Rattle.fidl_tree.specs.Leaf.{text_at}
use Rattle.fidl_consts.specs.Literals.{number_of}
use Rattle.fidl_member_rules.proofs.worked_rules.ordinals_begin_at_one.Goals as goal

pub returns-clause-refused : goal.returns-clause-refused
returns-clause-refused c src zero e =
    let m : number_of (text_at src zero) ≡ 0 = ap number_of e in
    record { among = (0, omega arith, refl); outside = λ h. omega (arith, m, h.0) }

pub returns-clause-other : goal.returns-clause-other
returns-clause-other c src one e h =
    let m : number_of (text_at src one) ≡ 1 = ap number_of e in
    h.outside (omega (arith, m), omega (arith, m))
