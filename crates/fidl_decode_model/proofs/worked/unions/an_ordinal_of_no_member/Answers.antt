use Rattle.fidl_decode_model.proofs.UnionFacts.{strict_unknown, flexible_unknown, strict_known}
use Rattle.fidl_decode_model.proofs.worked.unions.an_ordinal_of_no_member.Goals as goal

pub returns-clause-strict : goal.returns-clause-strict
returns-clause-strict c = strict_unknown

pub returns-clause-flexible : goal.returns-clause-flexible
returns-clause-flexible c = flexible_unknown

pub returns-clause-known : goal.returns-clause-known
returns-clause-known c = strict_known
