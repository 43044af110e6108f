use Rattle.fidl_parse.proofs.Stops.{stops}
use Rattle.fidl_parse.proofs.Joins.{reads_join}
use Rattle.fidl_parse.proofs.parser.Parser.attribute.Goals as goal

pub returns-in_err-sign-clause-complete : goal.returns-in_err-sign-clause-complete
returns-in_err-sign-clause-complete c x rest m a =
    let h = c.in_err-sign.ensures.complete x.at _ tt a in
    stops _ _ _ _ c.from_residual.ensures (λ x g. g) h

pub returns-in_err-name-clause-complete : goal.returns-in_err-name-clause-complete
returns-in_err-name-clause-complete c x rest m a =
    let b1 = c.in_ok-sign.ensures.complete x.at _ tt a in
    let h = c.in_err-name.ensures.complete x.name _ tt b1 in
    stops _ _ _ _ c.from_residual-in_err-name.ensures (λ x g. g) h

pub returns-in_err-arguments-clause-complete : goal.returns-in_err-arguments-clause-complete
returns-in_err-arguments-clause-complete c x rest m a =
    let b1 = c.in_ok-sign.ensures.complete x.at _ tt a in
    let b2 = c.in_ok-name.ensures.complete x.name _ tt b1 in
    let h = c.in_err-arguments.ensures.complete x.arguments _ m b2 in
    stops _ _ _ _ c.from_residual-in_err-arguments.ensures (λ x g. g) h

pub returns-clause-complete : goal.returns-clause-complete
returns-clause-complete c x rest m a =
    let b1 = c.in_ok-sign.ensures.complete x.at _ tt a in
    let b2 = c.in_ok-name.ensures.complete x.name _ tt b1 in
    c.in_ok-arguments.ensures.complete x.arguments _ m b2

pub returns-clause-reads : goal.returns-clause-reads
returns-clause-reads c =
    let r1 = reads_join _ _ _ _ _ _ c.in_ok-sign.ensures.reads c.in_ok-name.ensures.reads in
    let r2 = reads_join _ _ _ _ _ _ r1 c.in_ok-arguments.ensures.reads in
    r2
