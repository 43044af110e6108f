use Rattle.fidl_decode_model.proofs.UnionFacts.{out_broken, none_broken, inline_right}
use Rattle.fidl_decode_model.proofs.worked.unions.a_member_that_is_elsewhere.Goals as goal

pub returns-clause-out : goal.returns-clause-out
returns-clause-out c = out_broken

pub returns-clause-none : goal.returns-clause-none
returns-clause-none c = none_broken

pub returns-clause-inline : goal.returns-clause-inline
returns-clause-inline c = inline_right
