use Rattle.std.proofs.Common.{rules, arith, refl}
use Rattle.std.specs.Fmt.{digits}
use Rattle.fidl_wire.proofs.worked.an_unknown_member.Goals as goal

pub returns : goal.returns
unfolding digits
returns c = (record { typed = search (rules, arith); shallow = omega arith; message = refl; short = omega arith; few = omega arith }, refl)
