use Rattle.std.proofs.Common.{refl}
use Rattle.fidl_decode_model.proofs.Numbered.{no_four, one_eight}
use Rattle.fidl_decode_model.proofs.worked.envelopes.four_bytes_out_of_line.Goals as goal

pub returns-clause-four : goal.returns-clause-four
returns-clause-four c = (refl, no_four)

pub returns-clause-eight : goal.returns-clause-eight
returns-clause-eight c h = h.1 one_eight
