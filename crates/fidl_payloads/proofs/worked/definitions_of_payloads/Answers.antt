use Rattle.std.proofs.Common.{refl}
use Rattle.fidl_wire.specs.Term as ty
use Rattle.fidl_payloads.proofs.worked.definitions_of_payloads.Goals as goal

pub returns-clause-second : goal.returns-clause-second
returns-clause-second c = λ one fields. record { definition = ty.struct fields; at = refl; may_be = tt }
