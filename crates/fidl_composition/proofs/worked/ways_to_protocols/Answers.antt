use Rattle.fidl_composition.proofs.worked.ways_to_protocols.Goals as goal

pub returns-clause-elsewhere : goal.returns-clause-elsewhere
returns-clause-elsewhere c = λ files p q place none h. none h.through h.composes

pub returns-clause-not_reached : goal.returns-clause-not_reached
returns-clause-not_reached c = λ files p q place none h. none h.through (place.span, h.composes) h.reaches
