use Rattle.fidl_frames.proofs.Cuts.{cut_past_limit}
use Rattle.fidl_frames.proofs.laws.a_frame_past_a_limit_is_the_end.Goals as goal

pub returns : goal.returns
returns c = cut_past_limit
