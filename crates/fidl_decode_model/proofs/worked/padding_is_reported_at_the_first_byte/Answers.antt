use Rattle.fidl_decode_model.proofs.Inverted.{first_bad, second_bad, member_bad}
use Rattle.fidl_decode_model.proofs.worked.padding_is_reported_at_the_first_byte.Goals as goal

pub returns-clause-first : goal.returns-clause-first
returns-clause-first c = first_bad

pub returns-clause-second : goal.returns-clause-second
returns-clause-second c = second_bad

pub returns-clause-member : goal.returns-clause-member
returns-clause-member c = member_bad
