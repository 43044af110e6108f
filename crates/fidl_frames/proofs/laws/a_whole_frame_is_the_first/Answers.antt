use Rattle.fidl_frames.proofs.Cuts.{cut_whole}
use Rattle.fidl_frames.proofs.laws.a_whole_frame_is_the_first.Goals as goal

pub returns : goal.returns
returns c = cut_whole
