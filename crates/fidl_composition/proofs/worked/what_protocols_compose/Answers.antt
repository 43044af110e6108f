use Rattle.fidl_composition.proofs.Facts.{it_composes, not_elsewhere, without_members, not_both}
use Rattle.fidl_composition.proofs.worked.what_protocols_compose.Goals as goal

pub returns-clause-composed : goal.returns-clause-composed
returns-clause-composed c = it_composes

pub returns-clause-elsewhere : goal.returns-clause-elsewhere
returns-clause-elsewhere c = not_elsewhere

pub returns-clause-without : goal.returns-clause-without
returns-clause-without c = without_members

pub returns-clause-another : goal.returns-clause-another
returns-clause-another c = not_both
