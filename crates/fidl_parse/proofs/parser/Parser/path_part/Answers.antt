use Rattle.fidl_parse.proofs.Stops.{stops}
use Rattle.fidl_parse.proofs.parser.Parser.path_part.Goals as goal

pub returns-in_err-dot-clause-complete : goal.returns-in_err-dot-clause-complete
returns-in_err-dot-clause-complete c = λ x rest m a.
    let h = c.in_err-dot.ensures.complete x.dot _ tt a in
    stops _ _ _ _ c.from_residual.ensures (λ x g. g) h

pub returns-in_err-name-clause-complete : goal.returns-in_err-name-clause-complete
returns-in_err-name-clause-complete c = λ x rest m a.
    let a1 = c.in_ok-dot.ensures.complete x.dot _ tt a in
    let h = c.in_err-name.ensures.complete x.name _ tt a1 in
    stops _ _ _ _ c.from_residual-in_err-name.ensures (λ x g. g) h

pub returns-clause-complete : goal.returns-clause-complete
returns-clause-complete c = λ x rest m a.
    let a1 = c.in_ok-dot.ensures.complete x.dot _ tt a in
    c.in_ok-name.ensures.complete x.name _ tt a1
