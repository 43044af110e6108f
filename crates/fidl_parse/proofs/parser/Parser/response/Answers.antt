use Rattle.std.proofs.Common.{refl}
use Rattle.std.proofs.lemmas.Bool.{false≢true}
use Rattle.fidl_span.specs.declared.words.WordKind.TheVariants as kind
use Rattle.fidl_tree.specs.Protocol.{response_leaves}
use Rattle.fidl_parse.proofs.Options.{kind_none, kind_some}
use Rattle.fidl_parse.proofs.Follow.{other_begins, is_arrow}
use Rattle.fidl_parse.proofs.Protocols.{response_begins, response_ahead}
use Rattle.fidl_parse.proofs.Stops.{stops}
use Rattle.fidl_parse.proofs.Joins.{reads_join}
use Rattle.fidl_parse.proofs.parser.Parser.response.Goals as goal

pub returns-then-not-is_next-clause-complete : goal.returns-then-not-is_next-clause-complete
returns-then-not-is_next-clause-complete c x rest m a =
    kind_none response_leaves kind.Arrow _ _ x rest response_begins (λ e. false≢true (c.if-not-is_next.ensures.next.1 e)) a

pub returns-in_err-arrow-clause-complete : goal.returns-in_err-arrow-clause-complete
returns-in_err-arrow-clause-complete c x rest m a =
    let y = kind_some response_leaves kind.Arrow _ _ x rest (other_begins is_arrow kind.Arrow kind.Semicolon rest refl refl m) (c.is_next.ensures.next.0 c.if-not-is_next.false) a in
    let a0 = response_ahead _ _ y.0 rest y.1 in
    let h = c.in_err-arrow.ensures.complete y.0.arrow _ tt a0 in
    stops _ _ _ _ c.from_residual.ensures (λ x g. g) h

pub returns-in_err-payload-clause-complete : goal.returns-in_err-payload-clause-complete
returns-in_err-payload-clause-complete c x rest m a =
    let y = kind_some response_leaves kind.Arrow _ _ x rest (other_begins is_arrow kind.Arrow kind.Semicolon rest refl refl m) (c.is_next.ensures.next.0 c.if-not-is_next.false) a in
    let a0 = response_ahead _ _ y.0 rest y.1 in
    let b1 = c.in_ok-arrow.ensures.complete y.0.arrow _ tt a0 in
    let h = c.in_err-payload.ensures.complete y.0.payload _ tt b1 in
    stops _ _ _ _ c.from_residual-in_err-payload.ensures (λ x g. g) h

pub returns-in_err-error-clause-complete : goal.returns-in_err-error-clause-complete
returns-in_err-error-clause-complete c x rest m a =
    let y = kind_some response_leaves kind.Arrow _ _ x rest (other_begins is_arrow kind.Arrow kind.Semicolon rest refl refl m) (c.is_next.ensures.next.0 c.if-not-is_next.false) a in
    let a0 = response_ahead _ _ y.0 rest y.1 in
    let b1 = c.in_ok-arrow.ensures.complete y.0.arrow _ tt a0 in
    let b2 = c.in_ok-payload.ensures.complete y.0.payload _ tt b1 in
    let h = c.in_err-error.ensures.complete y.0.error _ m b2 in
    stops _ _ _ _ c.from_residual-in_err-error.ensures (λ x g. g) h

pub returns-clause-complete : goal.returns-clause-complete
returns-clause-complete c x rest m a =
    let y = kind_some response_leaves kind.Arrow _ _ x rest (other_begins is_arrow kind.Arrow kind.Semicolon rest refl refl m) (c.is_next.ensures.next.0 c.if-not-is_next.false) a in
    let a0 = response_ahead _ _ y.0 rest y.1 in
    let b1 = c.in_ok-arrow.ensures.complete y.0.arrow _ tt a0 in
    let b2 = c.in_ok-payload.ensures.complete y.0.payload _ tt b1 in
    c.in_ok-error.ensures.complete y.0.error _ m b2

pub returns-clause-reads : goal.returns-clause-reads
returns-clause-reads c =
    let r1 = reads_join _ _ _ _ _ _ c.in_ok-arrow.ensures.reads c.in_ok-payload.ensures.reads in
    let r2 = reads_join _ _ _ _ _ _ r1 c.in_ok-error.ensures.reads in
    r2
