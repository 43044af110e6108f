use Rattle.std.proofs.Common.{refl}
use Rattle.fidl_serve.specs.Replying.{answer_of}
use Rattle.fidl_serve.proofs.worked.a_call_gets_the_next_reply.Goals as goal

pub returns-clause-strict : goal.returns-clause-strict
unfolding answer_of
returns-clause-strict c = refl

pub returns-clause-flexible : goal.returns-clause-flexible
unfolding answer_of
returns-clause-flexible c = refl
