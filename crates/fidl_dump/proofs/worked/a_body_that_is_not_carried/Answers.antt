use Rattle.std.proofs.Common.{[], ◌∷◌, arith, refl}
use Rattle.fidl_header.specs.Header.{IsHeader}
use Rattle.fidl_requests.specs.Frame.{message_length, handle_count, message_of, handle_of, handles_of}
use Rattle.fidl_requests.specs.Samples.{protocol_of, a_frame}
use Rattle.fidl_requests.proofs.Sampled.{sound}
use Rattle.fidl_dump.specs.declared.direction.Direction.TheVariants.{Requests}
use Rattle.fidl_dump.specs.declared.fault.FrameFault.TheVariants as fault
use Rattle.fidl_dump.specs.Methods.{NamesMethod}
use Rattle.fidl_dump.specs.Faults.{IsFrameFault, not_bare}
use Rattle.fidl_dump.proofs.Refused.{refused_has_none}
use Rattle.fidl_dump.proofs.worked.a_body_that_is_not_carried.Goals as goal

begins : IsHeader (message_of (a_frame 1 7 0 3 (5 ∷ [])))
unfolding message_length message_of
begins = record { long = omega arith; magic = refl; version = λ e. absurd (omega (arith, e)); whole = refl }

third : NamesMethod (protocol_of 0) 3 2
third = record { place = 2; at = record { within = omega arith; is = refl }; is = refl }

refused : IsFrameFault (protocol_of 0) Requests (a_frame 1 7 0 3 (5 ∷ [])) fault.BadMessage
unfolding message_length handle_count message_of handle_of handles_of
refused = not_bare 2 begins third refl (λ h. let e = h.0 in cc)

pub returns-clause-refused : goal.returns-clause-refused
returns-clause-refused c = refused

pub returns-clause-no_line : goal.returns-clause-no_line
returns-clause-no_line c = λ line l. refused_has_none (protocol_of 0) (sound 0 (omega arith)) Requests (a_frame 1 7 0 3 (5 ∷ [])) line fault.BadMessage refused l
