use Rattle.std.proofs.Common.{◌≡◌, arith, refl, inr, [], ◌∷◌}
use Rattle.fidl_header.specs.Header.{IsHeader}
use Rattle.fidl_requests.specs.declared.ended.Ended.TheVariants.{StrictUnknown}
use Rattle.fidl_requests.specs.declared.verdict.Verdict.TheVariants.{Unknown, Call, End}
use Rattle.fidl_requests.specs.Frame.{message_length, message_of}
use Rattle.fidl_requests.specs.Samples.{protocol_of, a_frame}
use Rattle.fidl_requests.specs.Verdict.{unknown, IsVerdict}
use Rattle.fidl_requests.proofs.One.{one_verdict}
use Rattle.fidl_requests.proofs.Sampled.{sound, event}
use Rattle.fidl_requests.proofs.worked.verdicts.a_frame_of_an_event.Goals as goal

begins_flexible : IsHeader (message_of (a_frame 1 7 128 2 (5 ∷ [])))
unfolding message_length message_of
begins_flexible = record { long = omega arith; magic = refl; version = λ e. absurd (omega (arith, e)); whole = refl }

begins_strict : IsHeader (message_of (a_frame 1 7 0 2 (5 ∷ [])))
unfolding message_length message_of
begins_strict = record { long = omega arith; magic = refl; version = λ e. absurd (omega (arith, e)); whole = refl }

answered : IsVerdict (protocol_of 2) (a_frame 1 7 128 2 (5 ∷ [])) (Unknown 7 2)
unfolding message_length message_of
answered = unknown begins_flexible (inr (event 2))

strict : IsVerdict (protocol_of 2) (a_frame 1 7 0 2 (5 ∷ [])) (End StrictUnknown)
unfolding message_length message_of
strict = unknown begins_strict (inr (event 2))

pub returns-clause-answered : goal.returns-clause-answered
returns-clause-answered c = answered

pub returns-clause-strict : goal.returns-clause-strict
returns-clause-strict c = strict

pub returns-clause-no_call : goal.returns-clause-no_call
returns-clause-no_call c = λ v. let e : Unknown 7 2 ≡ Call 7 2 = one_verdict (protocol_of 2) (sound 2 (omega arith)) _ _ _ answered v in cc
