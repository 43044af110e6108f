use Rattle.std.proofs.lemmas.Bool.{false≢true}
use Rattle.fidl_parse.proofs.Attributes.{named_none, named_some}
use Rattle.fidl_parse.proofs.Stops.{stops}
use Rattle.fidl_parse.proofs.Joins.{reads_join}
use Rattle.fidl_parse.proofs.parser.Parser.argument_name.Goals as goal

pub returns-then-not-begins_argument_name-clause-complete : goal.returns-then-not-begins_argument_name-clause-complete
returns-then-not-begins_argument_name-clause-complete c x rest m a =
    named_none _ _ x rest (λ e. false≢true (c.if-not-begins_argument_name.ensures.1 e)) a

pub returns-in_err-name-clause-complete : goal.returns-in_err-name-clause-complete
returns-in_err-name-clause-complete c x rest m a =
    let y = named_some _ _ x rest m (c.begins_argument_name.ensures.0 c.if-not-begins_argument_name.false) a in
    let h = c.in_err-name.ensures.complete y.0.name _ tt y.1 in
    stops _ _ _ _ c.from_residual.ensures (λ x g. g) h

pub returns-in_err-equals-clause-complete : goal.returns-in_err-equals-clause-complete
returns-in_err-equals-clause-complete c x rest m a =
    let y = named_some _ _ x rest m (c.begins_argument_name.ensures.0 c.if-not-begins_argument_name.false) a in
    let b1 = c.in_ok-name.ensures.complete y.0.name _ tt y.1 in
    let h = c.in_err-equals.ensures.complete y.0.equals _ tt b1 in
    stops _ _ _ _ c.from_residual-in_err-equals.ensures (λ x g. g) h

pub returns-clause-complete : goal.returns-clause-complete
returns-clause-complete c x rest m a =
    let y = named_some _ _ x rest m (c.begins_argument_name.ensures.0 c.if-not-begins_argument_name.false) a in
    let b1 = c.in_ok-name.ensures.complete y.0.name _ tt y.1 in
    c.in_ok-equals.ensures.complete y.0.equals _ tt b1

pub returns-clause-reads : goal.returns-clause-reads
returns-clause-reads c =
    let r1 = reads_join _ _ _ _ _ _ c.in_ok-name.ensures.reads c.in_ok-equals.ensures.reads in
    r1
