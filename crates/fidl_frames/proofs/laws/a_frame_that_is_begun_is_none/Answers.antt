use Rattle.fidl_frames.proofs.Cuts.{cut_begun}
use Rattle.fidl_frames.proofs.laws.a_frame_that_is_begun_is_none.Goals as goal

pub returns : goal.returns
returns c = cut_begun
