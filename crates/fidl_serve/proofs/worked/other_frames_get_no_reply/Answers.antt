use Rattle.std.proofs.Common.{refl}
use Rattle.fidl_serve.specs.Replying.{answer_of, script_after}
use Rattle.fidl_serve.proofs.worked.other_frames_get_no_reply.Goals as goal

pub returns-clause-silence : goal.returns-clause-silence
unfolding answer_of script_after
returns-clause-silence c = refl

pub returns-clause-end : goal.returns-clause-end
unfolding answer_of script_after
returns-clause-end c = refl

pub returns-clause-left : goal.returns-clause-left
unfolding answer_of script_after
returns-clause-left c = refl
