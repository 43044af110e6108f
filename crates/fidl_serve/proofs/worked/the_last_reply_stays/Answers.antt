use Rattle.std.proofs.Common.{refl}
use Rattle.fidl_serve.specs.Replying.{script_after}
use Rattle.fidl_serve.proofs.worked.the_last_reply_stays.Goals as goal

pub returns-clause-first : goal.returns-clause-first
unfolding script_after
returns-clause-first c = refl

pub returns-clause-second : goal.returns-clause-second
unfolding script_after
returns-clause-second c = refl
