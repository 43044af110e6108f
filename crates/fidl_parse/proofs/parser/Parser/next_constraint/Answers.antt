use Rattle.fidl_parse.proofs.Stops.{stops}
use Rattle.fidl_parse.proofs.Joins.{reads_join}
use Rattle.fidl_parse.proofs.parser.Parser.next_constraint.Goals as goal

pub returns-in_err-comma-clause-complete : goal.returns-in_err-comma-clause-complete
returns-in_err-comma-clause-complete c x rest m a =
    let h = c.in_err-comma.ensures.complete x.comma _ tt a in
    stops _ _ _ _ c.from_residual.ensures (λ x g. g) h

pub returns-in_err-value-clause-complete : goal.returns-in_err-value-clause-complete
returns-in_err-value-clause-complete c x rest m a =
    let b1 = c.in_ok-comma.ensures.complete x.comma _ tt a in
    let h = c.in_err-value.ensures.complete x.value _ m b1 in
    stops _ _ _ _ c.from_residual-in_err-value.ensures (λ x g. g) h

pub returns-clause-complete : goal.returns-clause-complete
returns-clause-complete c x rest m a =
    let b1 = c.in_ok-comma.ensures.complete x.comma _ tt a in
    c.in_ok-value.ensures.complete x.value _ m b1

pub returns-clause-reads : goal.returns-clause-reads
returns-clause-reads c =
    let r1 = reads_join _ _ _ _ _ _ c.in_ok-comma.ensures.reads c.in_ok-value.ensures.reads in
    r1
