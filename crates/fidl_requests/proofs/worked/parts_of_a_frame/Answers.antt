use Rattle.std.proofs.Common.{refl}
use Rattle.fidl_requests.specs.Frame.{message_length, handle_count, message_of, handle_of, handles_of}
use Rattle.fidl_requests.proofs.worked.parts_of_a_frame.Goals as goal

pub returns-clause-message : goal.returns-clause-message
unfolding message_length message_of
returns-clause-message c = refl

pub returns-clause-handles : goal.returns-clause-handles
unfolding message_length handle_count handle_of handles_of
returns-clause-handles c = refl
