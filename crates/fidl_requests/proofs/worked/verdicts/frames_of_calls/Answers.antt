use Rattle.std.proofs.Common.{◌≡◌, arith, refl, []}
use Rattle.fidl_header.specs.Header.{IsHeader}
use Rattle.fidl_requests.specs.declared.ended.Ended.TheVariants.{BadMessage}
use Rattle.fidl_requests.specs.declared.verdict.Verdict.TheVariants.{Silence, Call, End}
use Rattle.fidl_requests.specs.Frame.{message_length, handle_count, message_of, handle_of, handles_of}
use Rattle.fidl_requests.specs.Samples.{protocol_of, a_frame}
use Rattle.fidl_requests.specs.Verdict.{called, IsVerdict}
use Rattle.fidl_requests.proofs.One.{one_verdict}
use Rattle.fidl_requests.proofs.Sampled.{sound, first, third}
use Rattle.fidl_requests.proofs.worked.verdicts.frames_of_calls.Goals as goal

begins_two_way : IsHeader (message_of (a_frame 1 7 0 3 []))
unfolding message_length message_of
begins_two_way = record { long = omega arith; magic = refl; version = λ e. absurd (omega (arith, e)); whole = refl }

begins_flexible : IsHeader (message_of (a_frame 1 7 128 3 []))
unfolding message_length message_of
begins_flexible = record { long = omega arith; magic = refl; version = λ e. absurd (omega (arith, e)); whole = refl }

begins_one_way : IsHeader (message_of (a_frame 1 0 0 1 []))
unfolding message_length message_of
begins_one_way = record { long = omega arith; magic = refl; version = λ e. absurd (omega (arith, e)); whole = refl }

two_way : IsVerdict (protocol_of 0) (a_frame 1 7 0 3 []) (Call 7 3)
unfolding message_length handle_count message_of handle_of handles_of
two_way = called 2 begins_two_way (third 0) (λ (e : 7 ≡ 0). absurd (omega (arith, e))) (refl, refl)

flexible : IsVerdict (protocol_of 0) (a_frame 1 7 128 3 []) (Call 7 3)
unfolding message_length handle_count message_of handle_of handles_of
flexible = called 2 begins_flexible (third 0) (λ (e : 7 ≡ 0). absurd (omega (arith, e))) (refl, refl)

one_way : IsVerdict (protocol_of 0) (a_frame 1 0 0 1 []) Silence
unfolding message_length handle_count message_of handle_of handles_of
one_way = called 0 begins_one_way (first 0) refl (refl, refl)

pub returns-clause-two_way : goal.returns-clause-two_way
returns-clause-two_way c = two_way

pub returns-clause-flexible : goal.returns-clause-flexible
returns-clause-flexible c = flexible

pub returns-clause-one_way : goal.returns-clause-one_way
returns-clause-one_way c = one_way

pub returns-clause-not_bad : goal.returns-clause-not_bad
returns-clause-not_bad c = λ v. let e : Call 7 3 ≡ End BadMessage = one_verdict (protocol_of 0) (sound 0 (omega arith)) _ _ _ two_way v in cc
