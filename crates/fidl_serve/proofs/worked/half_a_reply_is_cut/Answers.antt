use Rattle.std.proofs.Common.{[], ◌∷◌, arith, refl}
use Rattle.fidl_serve.proofs.worked.half_a_reply_is_cut.Goals as goal

pub returns : goal.returns
returns c = record {
  front = 3 ∷ [];
  rest = 4 ∷ [];
  written = refl;
  next = refl;
  last = omega arith;
  part = λ h. omega arith;
}
