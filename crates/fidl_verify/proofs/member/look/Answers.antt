use Rattle.std.proofs.Common.{◌-◌, arith}
use Rattle.fidl_verify.proofs.member.look.Goals as goal

pub returns-clause-row : goal.returns-clause-row
returns-clause-row c =
    (c.args.ordinal - 1, omega (arith, c.from.ensures, c.if-ordinal-eq0.false, c.if-ordinal-from.false), c.row-row.ensures.value, omega (arith, c.from-2.ensures, c.if-from-ordinal.false))
