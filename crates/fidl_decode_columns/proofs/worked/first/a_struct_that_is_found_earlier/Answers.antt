use Rattle.std.proofs.Common.{refl, arith}
use Rattle.std.specs.Prelude.{Some}
use Rattle.fidl_decode_columns.specs.Samples.{bool_wrong}
use Rattle.fidl_decode_columns.proofs.worked.first.a_struct_that_is_found_earlier.Goals as goal

pub returns-clause-earlier : goal.returns-clause-earlier
returns-clause-earlier c = (Some (bool_wrong 2 2), refl, (omega arith, (λ k lt. lt), refl))
