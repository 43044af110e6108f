use Rattle.std.proofs.Common.{arith, refl}
use Rattle.fidl_frames.specs.Frames.{frames_of, is_proper, frame_length}
use Rattle.fidl_dump.proofs.worked.four_bytes_are_a_bad_frame.Goals as goal

pub returns-clause-first : goal.returns-clause-first
unfolding frames_of is_proper frame_length
returns-clause-first c = λ p d. (refl, λ e. cc)

pub returns-clause-not_0 : goal.returns-clause-not_0
unfolding frames_of is_proper frame_length
returns-clause-not_0 c = λ p d h. let e = h.0 in absurd (omega (arith, e))
