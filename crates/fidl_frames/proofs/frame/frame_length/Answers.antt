use Rattle.std.proofs.Common.{arith}
use Rattle.std.proofs.lemmas.Grind.{common_steps}
use Rattle.fidl_frames.specs.Frames.{is_proper, frame_length}
use Rattle.fidl_frames.proofs.frame.frame_length.Goals as goal

pub returns-then-bytes-gt-MAX_MESSAGE_BYTES-clause-none : goal.returns-then-bytes-gt-MAX_MESSAGE_BYTES-clause-none
unfolding is_proper
returns-then-bytes-gt-MAX_MESSAGE_BYTES-clause-none c = grind (arith, common_steps)

pub returns-clause-proper : goal.returns-clause-proper
unfolding is_proper
returns-clause-proper c = grind (arith, common_steps)

pub returns-clause-long : goal.returns-clause-long
unfolding frame_length
returns-clause-long c = grind (arith, common_steps)
