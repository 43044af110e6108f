use Rattle.std.proofs.Common.{◌≡◌, arith, refl, [], ◌∷◌}
use Rattle.fidl_header.specs.Header.{IsHeader}
use Rattle.fidl_requests.specs.declared.ended.Ended.TheVariants.{BadMessage}
use Rattle.fidl_requests.specs.declared.verdict.Verdict.TheVariants.{Call, End}
use Rattle.fidl_requests.specs.Frame.{message_length, handle_count, message_of, handle_of, handles_of}
use Rattle.fidl_requests.specs.Samples.{protocol_of, a_frame}
use Rattle.fidl_requests.specs.Verdict.{bad_body, IsVerdict}
use Rattle.fidl_requests.proofs.One.{one_verdict}
use Rattle.fidl_requests.proofs.Sampled.{sound, third}
use Rattle.fidl_requests.proofs.worked.verdicts.a_frame_with_another_body.Goals as goal

begins : IsHeader (message_of (a_frame 1 7 0 3 (5 ∷ [])))
unfolding message_length message_of
begins = record { long = omega arith; magic = refl; version = λ e. absurd (omega (arith, e)); whole = refl }

bad : IsVerdict (protocol_of 0) (a_frame 1 7 0 3 (5 ∷ [])) (End BadMessage)
unfolding message_length handle_count message_of handle_of handles_of
bad = bad_body 2 begins (third 0) (λ (e : 7 ≡ 0). absurd (omega (arith, e))) (λ h. let e = h.0 in cc)

pub returns-clause-bad : goal.returns-clause-bad
returns-clause-bad c = bad

pub returns-clause-no_call : goal.returns-clause-no_call
returns-clause-no_call c = λ v. let e : End BadMessage ≡ Call 7 3 = one_verdict (protocol_of 0) (sound 0 (omega arith)) _ _ _ bad v in cc
