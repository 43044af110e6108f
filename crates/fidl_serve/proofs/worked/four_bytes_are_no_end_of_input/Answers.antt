use Rattle.std.proofs.Common.{ap}
use Rattle.fidl_frames.specs.Frames.{frames_of, is_proper, frame_length}
use Rattle.fidl_serve.specs.Output.{Output, IsOutput}
use Rattle.fidl_serve.proofs.worked.four_bytes_are_no_end_of_input.Goals as goal

pub returns : goal.returns
unfolding IsOutput frames_of is_proper frame_length
returns c = λ p s h. let e = ap (λ (o : Output). o.end) h in absurd (cc)
