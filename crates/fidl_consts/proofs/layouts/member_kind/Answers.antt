use Rattle.fidl_consts.specs.Types.{UnderlyingIs}
use Rattle.fidl_consts.proofs.layouts.member_kind.Goals as goal

pub returns-in_default-clause-ok : goal.returns-in_default-clause-ok
returns-in_default-clause-ok c = rw c.in_default.is UnderlyingIs.unwritten
