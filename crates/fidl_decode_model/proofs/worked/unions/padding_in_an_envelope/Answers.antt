use Rattle.fidl_decode_model.proofs.UnionFacts.{first_padding, second_padding, zero_padding}
use Rattle.fidl_decode_model.proofs.worked.unions.padding_in_an_envelope.Goals as goal

pub returns-clause-first : goal.returns-clause-first
returns-clause-first c = first_padding

pub returns-clause-second : goal.returns-clause-second
returns-clause-second c = second_padding

pub returns-clause-zero : goal.returns-clause-zero
returns-clause-zero c = zero_padding
