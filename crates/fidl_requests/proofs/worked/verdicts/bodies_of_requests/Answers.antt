use Rattle.std.proofs.Common.{refl}
use Rattle.fidl_requests.specs.Frame.{message_length, handle_count, message_of, handle_of, handles_of}
use Rattle.fidl_requests.proofs.worked.verdicts.bodies_of_requests.Goals as goal

pub returns-clause-nothing : goal.returns-clause-nothing
unfolding message_length handle_count message_of handle_of handles_of
returns-clause-nothing c = (refl, refl)

pub returns-clause-a_byte : goal.returns-clause-a_byte
unfolding message_length handle_count message_of handle_of handles_of
returns-clause-a_byte c = λ h. let e = h.0 in cc

pub returns-clause-of_an_event : goal.returns-clause-of_an_event
unfolding message_length handle_count message_of handle_of handles_of
returns-clause-of_an_event c = λ h. h
