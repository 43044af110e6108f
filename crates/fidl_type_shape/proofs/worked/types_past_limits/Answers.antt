use Rattle.std.proofs.Common.{rules, false, [], ◌∷◌, arith}
use Rattle.fidl_wire.specs.Term as ty
use Rattle.fidl_type_shape.specs.declared.fault.Excess.TheVariants as excess
use Rattle.fidl_type_shape.specs.Samples.{bytes, arrays}
use Rattle.fidl_type_shape.proofs.Lists.{among_more}
use Rattle.fidl_type_shape.proofs.Nests.{itself}
use Rattle.fidl_type_shape.proofs.Excluded.{fits_not}
use Rattle.fidl_type_shape.proofs.worked.types_past_limits.Goals as goal

pub returns-clause-large : goal.returns-clause-large
returns-clause-large c = record { part = bytes 65536; among = itself (bytes 65536); own = tt; beyond = omega arith }

pub returns-clause-in_a_vector : goal.returns-clause-in_a_vector
returns-clause-in_a_vector c = record {
  part = bytes 65536;
  among = among_more (ty.vector false 2 (bytes 65536)) (bytes 65536) (bytes 65536 ∷ ty.number ty.uint8 ∷ []) (itself (bytes 65536));
  own = tt;
  beyond = omega arith;
}

pub returns-clause-deep : goal.returns-clause-deep
returns-clause-deep c = record { part = arrays 33; among = itself (arrays 33); own = tt; beyond = omega arith }

pub returns-clause-not_last_deep : goal.returns-clause-not_last_deep
returns-clause-not_last_deep c h = fits_not [] (arrays 32) excess.Nest h (search rules)
