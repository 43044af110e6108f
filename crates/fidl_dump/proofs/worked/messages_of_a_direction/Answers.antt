use Rattle.std.proofs.Common.{◌≡◌, [], length, inr, arith, refl, ap}
use Rattle.std.specs.Prelude.{codes}
use Rattle.std.specs.Fmt.{digits}
use Rattle.fidl_header.specs.Header.{IsHeader}
use Rattle.fidl_requests.specs.Frame.{message_length, handle_count, message_of, handle_of, handles_of}
use Rattle.fidl_requests.specs.Samples.{protocol_of, a_frame}
use Rattle.fidl_requests.proofs.Sampled.{sound}
use Rattle.fidl_dump.specs.declared.direction.Direction.TheVariants.{Requests}
use Rattle.fidl_dump.specs.Methods.{NamesMethod}
use Rattle.fidl_dump.specs.Lines.{IsLine, unknown, bare}
use Rattle.fidl_dump.proofs.One.{one_line}
use Rattle.fidl_dump.proofs.worked.messages_of_a_direction.Goals as goal

first : NamesMethod (protocol_of 0) 1 0
first = record { place = 0; at = record { within = omega arith; is = refl }; is = refl }

second : NamesMethod (protocol_of 0) 2 1
second = record { place = 1; at = record { within = omega arith; is = refl }; is = refl }

third : NamesMethod (protocol_of 0) 3 2
third = record { place = 2; at = record { within = omega arith; is = refl }; is = refl }

begins_1 : IsHeader (message_of (a_frame 1 0 0 1 []))
unfolding message_length message_of
begins_1 = record { long = omega arith; magic = refl; version = λ e. absurd (omega (arith, e)); whole = refl }

begins_2 : IsHeader (message_of (a_frame 1 0 0 2 []))
unfolding message_length message_of
begins_2 = record { long = omega arith; magic = refl; version = λ e. absurd (omega (arith, e)); whole = refl }

begins_3 : IsHeader (message_of (a_frame 1 7 0 3 []))
unfolding message_length message_of
begins_3 = record { long = omega arith; magic = refl; version = λ e. absurd (omega (arith, e)); whole = refl }

pub returns-clause-event : goal.returns-clause-event
unfolding message_length handle_count message_of handle_of handles_of digits
returns-clause-event c = bare 1 begins_2 second refl (refl, refl)

no_request : IsLine (protocol_of 0) Requests (a_frame 1 0 0 2 []) (codes "0 0000000000000002 unknown\n")
unfolding message_length message_of digits
no_request = unknown begins_2 (inr (1, second, refl))

pub returns-clause-no_request : goal.returns-clause-no_request
returns-clause-no_request c = no_request

pub returns-clause-one_way : goal.returns-clause-one_way
unfolding message_length handle_count message_of handle_of handles_of digits
returns-clause-one_way c = bare 0 begins_1 first refl (refl, refl)

pub returns-clause-no_response : goal.returns-clause-no_response
unfolding message_length message_of digits
returns-clause-no_response c = unknown begins_1 (inr (0, first, refl))

pub returns-clause-two_way : goal.returns-clause-two_way
unfolding message_length handle_count message_of handle_of handles_of digits
returns-clause-two_way c = bare 2 begins_3 third refl (refl, refl)

pub returns-clause-reply : goal.returns-clause-reply
unfolding message_length handle_count message_of handle_of handles_of digits
returns-clause-reply c = bare 2 begins_3 third refl (refl, refl)

pub returns-clause-other : goal.returns-clause-other
returns-clause-other c = λ other.
    let bad : 27 ≡ 21 = ap length (one_line (protocol_of 0) (sound 0 (omega arith)) Requests (a_frame 1 0 0 2 []) _ _ no_request other) in absurd (omega (arith, bad))
