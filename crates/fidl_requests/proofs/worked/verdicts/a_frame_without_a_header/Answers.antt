use Rattle.std.proofs.Common.{◌≡◌, arith, []}
use Rattle.fidl_requests.specs.declared.ended.Ended.TheVariants.{StrictUnknown, BadMessage}
use Rattle.fidl_requests.specs.declared.verdict.Verdict.TheVariants.{End}
use Rattle.fidl_requests.specs.Frame.{message_length, message_of}
use Rattle.fidl_requests.specs.Samples.{protocol_of, a_frame}
use Rattle.fidl_requests.specs.Verdict.{no_header, IsVerdict}
use Rattle.fidl_requests.proofs.One.{one_verdict}
use Rattle.fidl_requests.proofs.Sampled.{sound}
use Rattle.fidl_requests.proofs.worked.verdicts.a_frame_without_a_header.Goals as goal

bad : IsVerdict (protocol_of 0) (a_frame 2 0 0 9 []) (End BadMessage)
unfolding message_length message_of
bad = no_header (λ h. let never : 2 ≡ 1 = h.magic in absurd (omega arith))

pub returns-clause-bad : goal.returns-clause-bad
returns-clause-bad c = bad

pub returns-clause-no_other : goal.returns-clause-no_other
returns-clause-no_other c = λ v. let e : End BadMessage ≡ End StrictUnknown = one_verdict (protocol_of 0) (sound 0 (omega arith)) _ _ _ bad v in cc
