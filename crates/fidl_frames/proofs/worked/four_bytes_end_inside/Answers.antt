use Rattle.std.proofs.Common.{refl}
use Rattle.fidl_frames.specs.Frames.{frames_of, is_proper, frame_length}
use Rattle.fidl_frames.proofs.worked.four_bytes_end_inside.Goals as goal

pub returns : goal.returns
unfolding frames_of is_proper frame_length
returns c = refl
