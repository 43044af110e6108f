use Rattle.std.proofs.Common.{refl, arith, inl}
use Rattle.fidl_decode_model.proofs.worked.padding_behind_the_primary_object.Goals as goal

pub returns : goal.returns
returns c = ((omega arith, omega arith), inl (omega arith, omega arith, (omega arith, refl, tt), λ e. omega (arith, e)))
