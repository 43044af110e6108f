use Rattle.fidl_composition.proofs.Facts.{openness_breaks, closed_hold}
use Rattle.fidl_composition.proofs.worked.where_openness_is_reported.Goals as goal

pub returns-clause-there : goal.returns-clause-there
returns-clause-there c = openness_breaks

pub returns-clause-elsewhere : goal.returns-clause-elsewhere
returns-clause-elsewhere c = λ files place none h. none h.composing h.composed h.file_is h.composes

pub returns-clause-closed : goal.returns-clause-closed
returns-clause-closed c = closed_hold
