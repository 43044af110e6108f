use Rattle.std.proofs.Common.{◌∷◌, [], refl, arith}
use Rattle.fidl_table_format.specs.Terms.{declarations_of}
use Rattle.fidl_decode_model.specs.Faults.{message_of}
use Rattle.fidl_decode_columns.specs.Samples.{at_start}
use Rattle.fidl_decode_columns.proofs.Examples.{zeros_only, only_zeros, fine_start, not_five}
use Rattle.fidl_decode_columns.proofs.worked.structs.how_far_a_struct_is_read.Goals as goal

pub returns-clause-passed : goal.returns-clause-passed
returns-clause-passed c = λ h.
    let m = message_of (0 ∷ 5 ∷ []) [] in
    let turns = h at_start fine_start in
    let members = (turns.same at_start).1 (at_start, refl, (only_zeros (declarations_of []) m 1 1 1 at_start at_start refl tt 0).0) in
    not_five (zeros_only (declarations_of []) m 1 1 0 at_start at_start members).1.1

pub returns-clause-past : goal.returns-clause-past
returns-clause-past c = λ h. let rise = (h at_start fine_start).rest_fine.0.rise in absurd (omega (arith, rise))
