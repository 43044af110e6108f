use Rattle.std.proofs.Common.{rules, arith, refl}
use Rattle.fidl_wire.proofs.worked.boxes_of_depth_32.Goals as goal

pub returns : goal.returns
returns c = (refl, record { typed = search rules; shallow = omega arith; message = refl; short = omega arith; few = omega arith }, refl)
