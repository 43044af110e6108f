use Rattle.std.proofs.Common.{refl}
use Rattle.fidl_frames.specs.Frames.{frames_of}
use Rattle.fidl_dump.specs.Lines.{none}
use Rattle.fidl_dump.proofs.worked.nothing_is_printed_of_nothing.Goals as goal

pub returns-clause-lines : goal.returns-clause-lines
unfolding frames_of
returns-clause-lines c = λ p d. none

pub returns-clause-no_frame : goal.returns-clause-no_frame
unfolding frames_of
returns-clause-no_frame c = λ p d h. h.1 refl
