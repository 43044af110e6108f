use Rattle.std.proofs.Common.{arith, refl}
use Rattle.fidl_frames.specs.Frames.{frames_of, is_proper, frame_length}
use Rattle.fidl_requests.specs.declared.ended.Ended.TheVariants.{BadMessage}
use Rattle.fidl_requests.specs.declared.verdict.Verdict.TheVariants.{End}
use Rattle.fidl_requests.specs.Frame.{message_length, message_of}
use Rattle.fidl_requests.specs.Verdict.{no_header}
use Rattle.fidl_serve.specs.Output.{IsOutput}
use Rattle.fidl_serve.specs.Replying.{answer_of}
use Rattle.fidl_serve.proofs.worked.an_empty_message_is_the_end.Goals as goal

pub returns : goal.returns
unfolding IsOutput frames_of is_proper frame_length answer_of message_of message_length
returns c = λ p s. (End BadMessage, no_header (λ h. let long = h.long in omega arith), refl)
