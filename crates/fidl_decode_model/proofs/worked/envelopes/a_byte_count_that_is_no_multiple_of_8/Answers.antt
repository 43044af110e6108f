use Rattle.std.proofs.Common.{refl}
use Rattle.fidl_decode_model.proofs.Numbered.{no_part, any_eight}
use Rattle.fidl_decode_model.proofs.worked.envelopes.a_byte_count_that_is_no_multiple_of_8.Goals as goal

pub returns-clause-four : goal.returns-clause-four
returns-clause-four c = (refl, no_part)

pub returns-clause-eight : goal.returns-clause-eight
returns-clause-eight c h = h.1 any_eight
