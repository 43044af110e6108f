use Rattle.fidl_parse.proofs.Stops.{stops}
use Rattle.fidl_parse.proofs.Joins.{reads_join}
use Rattle.fidl_parse.proofs.parser.Parser.type_declaration.Goals as goal

pub returns-in_err-keyword-clause-complete : goal.returns-in_err-keyword-clause-complete
returns-in_err-keyword-clause-complete c x rest m a =
    let h = c.in_err-keyword.ensures.complete x.keyword _ tt a in
    stops _ _ _ _ c.from_residual.ensures (λ x g. g) h

pub returns-in_err-name-clause-complete : goal.returns-in_err-name-clause-complete
returns-in_err-name-clause-complete c x rest m a =
    let b1 = c.in_ok-keyword.ensures.complete x.keyword _ tt a in
    let h = c.in_err-name.ensures.complete x.name _ tt b1 in
    stops _ _ _ _ c.from_residual-in_err-name.ensures (λ x g. g) h

pub returns-in_err-equals-clause-complete : goal.returns-in_err-equals-clause-complete
returns-in_err-equals-clause-complete c x rest m a =
    let b1 = c.in_ok-keyword.ensures.complete x.keyword _ tt a in
    let b2 = c.in_ok-name.ensures.complete x.name _ tt b1 in
    let h = c.in_err-equals.ensures.complete x.equals _ tt b2 in
    stops _ _ _ _ c.from_residual-in_err-equals.ensures (λ x g. g) h

pub returns-in_err-layout-clause-complete : goal.returns-in_err-layout-clause-complete
returns-in_err-layout-clause-complete c x rest m a =
    let b1 = c.in_ok-keyword.ensures.complete x.keyword _ tt a in
    let b2 = c.in_ok-name.ensures.complete x.name _ tt b1 in
    let b3 = c.in_ok-equals.ensures.complete x.equals _ tt b2 in
    let h = c.in_err-layout.ensures.complete x.layout _ tt b3 in
    stops _ _ _ _ c.from_residual-in_err-layout.ensures (λ x g. g) h

pub returns-clause-complete : goal.returns-clause-complete
returns-clause-complete c x rest m a =
    let b1 = c.in_ok-keyword.ensures.complete x.keyword _ tt a in
    let b2 = c.in_ok-name.ensures.complete x.name _ tt b1 in
    let b3 = c.in_ok-equals.ensures.complete x.equals _ tt b2 in
    c.in_ok-layout.ensures.complete x.layout _ tt b3

pub returns-clause-reads : goal.returns-clause-reads
returns-clause-reads c =
    let r1 = reads_join _ _ _ _ _ _ c.in_ok-keyword.ensures.reads c.in_ok-name.ensures.reads in
    let r2 = reads_join _ _ _ _ _ _ r1 c.in_ok-equals.ensures.reads in
    let r3 = reads_join _ _ _ _ _ _ r2 c.in_ok-layout.ensures.reads in
    r3
