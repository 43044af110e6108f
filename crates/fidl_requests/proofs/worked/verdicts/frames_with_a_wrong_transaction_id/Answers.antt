use Rattle.std.proofs.Common.{◌≡◌, arith, refl, []}
use Rattle.fidl_header.specs.Header.{IsHeader}
use Rattle.fidl_requests.specs.declared.ended.Ended.TheVariants.{BadMessage}
use Rattle.fidl_requests.specs.declared.verdict.Verdict.TheVariants.{Silence, End}
use Rattle.fidl_requests.specs.Frame.{message_length, message_of}
use Rattle.fidl_requests.specs.Samples.{protocol_of, a_frame}
use Rattle.fidl_requests.specs.Verdict.{wrong_call, IsVerdict}
use Rattle.fidl_requests.proofs.One.{one_verdict}
use Rattle.fidl_requests.proofs.Sampled.{sound, first, third}
use Rattle.fidl_requests.proofs.worked.verdicts.frames_with_a_wrong_transaction_id.Goals as goal

begins_one_way : IsHeader (message_of (a_frame 1 7 128 1 []))
unfolding message_length message_of
begins_one_way = record { long = omega arith; magic = refl; version = λ e. absurd (omega (arith, e)); whole = refl }

begins_two_way : IsHeader (message_of (a_frame 1 0 128 3 []))
unfolding message_length message_of
begins_two_way = record { long = omega arith; magic = refl; version = λ e. absurd (omega (arith, e)); whole = refl }

one_way : IsVerdict (protocol_of 2) (a_frame 1 7 128 1 []) (End BadMessage)
unfolding message_length message_of
one_way = wrong_call 0 begins_one_way (first 2) (λ (e : 7 ≡ 0). absurd (omega (arith, e)))

two_way : IsVerdict (protocol_of 2) (a_frame 1 0 128 3 []) (End BadMessage)
unfolding message_length message_of
two_way = wrong_call 2 begins_two_way (third 2) (λ n. n refl)

pub returns-clause-one_way : goal.returns-clause-one_way
returns-clause-one_way c = one_way

pub returns-clause-two_way : goal.returns-clause-two_way
returns-clause-two_way c = two_way

pub returns-clause-not_silence : goal.returns-clause-not_silence
returns-clause-not_silence c = λ v. let e : End BadMessage ≡ Silence = one_verdict (protocol_of 2) (sound 2 (omega arith)) _ _ _ one_way v in cc
