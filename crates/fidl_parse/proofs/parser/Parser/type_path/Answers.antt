use Rattle.fidl_parse.proofs.Stops.{stops}
use Rattle.fidl_parse.proofs.Joins.{reads_join}
use Rattle.fidl_parse.proofs.parser.Parser.type_path.Goals as goal

pub returns-in_err-first-clause-complete : goal.returns-in_err-first-clause-complete
returns-in_err-first-clause-complete c = λ x rest m a.
    let h = c.in_err-first.ensures.complete x.first _ tt a in
    stops _ _ _ _ c.from_residual.ensures (λ x g. g) h

pub returns-in_err-rest-clause-complete : goal.returns-in_err-rest-clause-complete
returns-in_err-rest-clause-complete c = λ x rest m a.
    let a1 = c.in_ok-first.ensures.complete x.first _ tt a in
    let h = c.in_err-rest.ensures.complete x.rest.items _ m a1 in
    stops _ _ _ _ c.from_residual-in_err-rest.ensures (λ x g. g) h

pub returns-clause-complete : goal.returns-clause-complete
returns-clause-complete c = λ x rest m a.
    let a1 = c.in_ok-first.ensures.complete x.first _ tt a in
    c.in_ok-rest.ensures.complete x.rest.items _ m a1

pub returns-clause-reads : goal.returns-clause-reads
returns-clause-reads c =
    let r1 = reads_join _ _ _ _ _ _ c.in_ok-first.ensures.reads c.in_ok-rest.ensures.reads in
    r1
