use Rattle.fidl_composition.proofs.Facts.{is_one, is_not_closed, is_none, its_name}
use Rattle.fidl_composition.proofs.worked.what_is_a_protocol.Goals as goal

pub returns-clause-protocol : goal.returns-clause-protocol
returns-clause-protocol c = is_one

pub returns-clause-other : goal.returns-clause-other
returns-clause-other c = is_not_closed

pub returns-clause-no_alias : goal.returns-clause-no_alias
returns-clause-no_alias c = is_none

pub returns-clause-name : goal.returns-clause-name
returns-clause-name c = its_name
