use Rattle.fidl_decode_model.proofs.Unknown.{second_bit, members_alone}
use Rattle.fidl_decode_model.proofs.worked.a_bit_that_is_no_member.Goals as goal

pub returns-clause-unknown : goal.returns-clause-unknown
returns-clause-unknown c = second_bit

pub returns-clause-known : goal.returns-clause-known
returns-clause-known c = members_alone
