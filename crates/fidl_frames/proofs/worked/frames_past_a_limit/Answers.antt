use Rattle.std.proofs.Common.{refl}
use Rattle.fidl_frames.specs.Frames.{frames_of, is_proper, frame_length}
use Rattle.fidl_frames.proofs.worked.frames_past_a_limit.Goals as goal

pub returns-clause-bytes : goal.returns-clause-bytes
unfolding frames_of is_proper frame_length
returns-clause-bytes c = refl

pub returns-clause-handles : goal.returns-clause-handles
unfolding frames_of is_proper frame_length
returns-clause-handles c = refl
