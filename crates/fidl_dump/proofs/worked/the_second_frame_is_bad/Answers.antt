use Rattle.std.proofs.Common.{arith, refl}
use Rattle.fidl_frames.specs.Frames.{frames_of, is_proper, frame_length}
use Rattle.fidl_dump.proofs.worked.the_second_frame_is_bad.Goals as goal

pub returns-clause-second : goal.returns-clause-second
unfolding frames_of is_proper frame_length
returns-clause-second c = λ p d. (refl, λ e. cc)

pub returns-clause-not_first : goal.returns-clause-not_first
unfolding frames_of is_proper frame_length
returns-clause-not_first c = λ p d h. let e = h.0 in absurd (omega (arith, e))
