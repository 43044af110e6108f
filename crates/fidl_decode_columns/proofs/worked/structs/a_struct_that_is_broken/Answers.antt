use Rattle.std.proofs.Common.{◌∷◌, [], refl, arith}
use Rattle.fidl_table_format.specs.Terms.{declarations_of}
use Rattle.fidl_decode_model.specs.declared.fault.DecodeFault.TheVariants.{Padding}
use Rattle.fidl_decode_model.specs.Breaks.{in_end}
use Rattle.fidl_decode_model.specs.Faults.{message_of}
use Rattle.fidl_decode_model.proofs.Inverted.{of_end}
use Rattle.fidl_decode_columns.specs.Samples.{at_start}
use Rattle.fidl_decode_columns.proofs.Examples.{fine_start, not_five}
use Rattle.fidl_decode_columns.proofs.worked.structs.a_struct_that_is_broken.Goals as goal

pub returns-clause-five : goal.returns-clause-five
returns-clause-five c = λ s state. in_end 1 1 0 s (Padding 1) (omega arith, omega arith, tt, not_five)

pub returns-clause-zero : goal.returns-clause-zero
returns-clause-zero c = λ h. (of_end (declarations_of []) (message_of (0 ∷ 5 ∷ []) []) 0 1 0 0 at_start (Padding 0) (h at_start fine_start)).3 refl

pub returns-clause-other : goal.returns-clause-other
returns-clause-other c = λ h. let from = (of_end (declarations_of []) (message_of (0 ∷ 5 ∷ []) []) 0 1 1 0 at_start (Padding 0) (h at_start fine_start)).0 in absurd (omega (arith, from))
