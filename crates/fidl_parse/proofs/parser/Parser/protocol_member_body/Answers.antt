use Rattle.std.proofs.Common.{refl}
use Rattle.std.proofs.lemmas.Bool.{false≢true}
use Rattle.fidl_span.specs.declared.words.WordKind.TheVariants as kind
use Rattle.fidl_parse.specs.FollowSets.{extends_path}
use Rattle.fidl_parse.proofs.Ahead.{begins_not}
use Rattle.fidl_parse.proofs.Protocols.{compose_ahead, call_ahead, call_may, event_ahead, method_ahead}
use Rattle.fidl_parse.proofs.Stops.{stops}
use Rattle.fidl_parse.proofs.Joins.{reads_join}
use Rattle.fidl_parse.proofs.parser.Parser.protocol_member_body.Goals as goal

pub returns-in_err-keyword-clause-complete : goal.returns-in_err-keyword-clause-complete
returns-in_err-keyword-clause-complete c x rest m a =
    let i = c.begins_compose.ensures.0 c.if-begins_compose.true in
    let y = compose_ahead _ _ x rest i.0 i.1 a in
    let h = c.in_err-keyword.ensures.complete y.0 _ tt y.2 in
    stops _ _ _ _ c.from_residual.ensures (λ x g. g) h

pub returns-in_err-path-clause-complete : goal.returns-in_err-path-clause-complete
returns-in_err-path-clause-complete c x rest m a =
    let i = c.begins_compose.ensures.0 c.if-begins_compose.true in
    let y = compose_ahead _ _ x rest i.0 i.1 a in
    let b1 = c.in_ok-keyword.ensures.complete y.0 _ tt y.2 in
    let h = c.in_err-path.ensures.complete y.1 _ (begins_not extends_path kind.Semicolon rest refl m) b1 in
    stops _ _ _ _ c.from_residual-in_err-path.ensures (λ x g. g) h

pub returns-then-begins_compose-clause-complete : goal.returns-then-begins_compose-clause-complete
returns-then-begins_compose-clause-complete c x rest m a =
    let i = c.begins_compose.ensures.0 c.if-begins_compose.true in
    let y = compose_ahead _ _ x rest i.0 i.1 a in
    let b1 = c.in_ok-keyword.ensures.complete y.0 _ tt y.2 in
    c.in_ok-path.ensures.complete y.1 _ (begins_not extends_path kind.Semicolon rest refl m) b1

pub returns-in_err-strictness-clause-complete : goal.returns-in_err-strictness-clause-complete
returns-in_err-strictness-clause-complete c x rest m a =
    let y = call_ahead _ _ x rest (λ i. false≢true (c.if-begins_compose.ensures.1 i)) a in
    let h = c.in_err-strictness.ensures.complete y.0 _ (call_may y.1 rest) y.2 in
    stops _ _ _ _ c.from_residual-in_err-strictness.ensures (λ x g. g) h

pub returns-in_err-arrow-clause-complete : goal.returns-in_err-arrow-clause-complete
returns-in_err-arrow-clause-complete c x rest m a =
    let y = call_ahead _ _ x rest (λ i. false≢true (c.if-begins_compose.ensures.1 i)) a in
    let b0 = c.in_ok-strictness.ensures.complete y.0 _ (call_may y.1 rest) y.2 in
    let e = event_ahead _ _ y.1 rest (c.is_next.ensures.next.0 c.if-is_next.true) b0 in
    let h = c.in_err-arrow.ensures.complete e.0 _ tt e.3 in
    stops _ _ _ _ c.from_residual-in_err-arrow.ensures (λ x g. g) h

pub returns-in_err-name-clause-complete : goal.returns-in_err-name-clause-complete
returns-in_err-name-clause-complete c x rest m a =
    let y = call_ahead _ _ x rest (λ i. false≢true (c.if-begins_compose.ensures.1 i)) a in
    let b0 = c.in_ok-strictness.ensures.complete y.0 _ (call_may y.1 rest) y.2 in
    let e = event_ahead _ _ y.1 rest (c.is_next.ensures.next.0 c.if-is_next.true) b0 in
    let b1 = c.in_ok-arrow.ensures.complete e.0 _ tt e.3 in
    let h = c.in_err-name.ensures.complete e.1 _ tt b1 in
    stops _ _ _ _ c.from_residual-in_err-name.ensures (λ x g. g) h

pub returns-in_err-payload-clause-complete : goal.returns-in_err-payload-clause-complete
returns-in_err-payload-clause-complete c x rest m a =
    let y = call_ahead _ _ x rest (λ i. false≢true (c.if-begins_compose.ensures.1 i)) a in
    let b0 = c.in_ok-strictness.ensures.complete y.0 _ (call_may y.1 rest) y.2 in
    let e = event_ahead _ _ y.1 rest (c.is_next.ensures.next.0 c.if-is_next.true) b0 in
    let b1 = c.in_ok-arrow.ensures.complete e.0 _ tt e.3 in
    let b2 = c.in_ok-name.ensures.complete e.1 _ tt b1 in
    let h = c.in_err-payload.ensures.complete e.2 _ tt b2 in
    stops _ _ _ _ c.from_residual-in_err-payload.ensures (λ x g. g) h

pub returns-then-is_next-clause-complete : goal.returns-then-is_next-clause-complete
returns-then-is_next-clause-complete c x rest m a =
    let y = call_ahead _ _ x rest (λ i. false≢true (c.if-begins_compose.ensures.1 i)) a in
    let b0 = c.in_ok-strictness.ensures.complete y.0 _ (call_may y.1 rest) y.2 in
    let e = event_ahead _ _ y.1 rest (c.is_next.ensures.next.0 c.if-is_next.true) b0 in
    let b1 = c.in_ok-arrow.ensures.complete e.0 _ tt e.3 in
    let b2 = c.in_ok-name.ensures.complete e.1 _ tt b1 in
    c.in_ok-payload.ensures.complete e.2 _ tt b2

pub returns-in_err-name-2-clause-complete : goal.returns-in_err-name-2-clause-complete
returns-in_err-name-2-clause-complete c x rest m a =
    let y = call_ahead _ _ x rest (λ i. false≢true (c.if-begins_compose.ensures.1 i)) a in
    let b0 = c.in_ok-strictness.ensures.complete y.0 _ (call_may y.1 rest) y.2 in
    let e = method_ahead _ _ y.1 rest (λ e. false≢true (c.if-is_next.ensures.next.1 e)) b0 in
    let h = c.in_err-name-2.ensures.complete e.0 _ tt e.3 in
    stops _ _ _ _ c.from_residual-in_err-name-2.ensures (λ x g. g) h

pub returns-in_err-request-clause-complete : goal.returns-in_err-request-clause-complete
returns-in_err-request-clause-complete c x rest m a =
    let y = call_ahead _ _ x rest (λ i. false≢true (c.if-begins_compose.ensures.1 i)) a in
    let b0 = c.in_ok-strictness.ensures.complete y.0 _ (call_may y.1 rest) y.2 in
    let e = method_ahead _ _ y.1 rest (λ e. false≢true (c.if-is_next.ensures.next.1 e)) b0 in
    let b1 = c.in_ok-name-2.ensures.complete e.0 _ tt e.3 in
    let h = c.in_err-request.ensures.complete e.1 _ tt b1 in
    stops _ _ _ _ c.from_residual-in_err-request.ensures (λ x g. g) h

pub returns-in_err-response-clause-complete : goal.returns-in_err-response-clause-complete
returns-in_err-response-clause-complete c x rest m a =
    let y = call_ahead _ _ x rest (λ i. false≢true (c.if-begins_compose.ensures.1 i)) a in
    let b0 = c.in_ok-strictness.ensures.complete y.0 _ (call_may y.1 rest) y.2 in
    let e = method_ahead _ _ y.1 rest (λ e. false≢true (c.if-is_next.ensures.next.1 e)) b0 in
    let b1 = c.in_ok-name-2.ensures.complete e.0 _ tt e.3 in
    let b2 = c.in_ok-request.ensures.complete e.1 _ tt b1 in
    let h = c.in_err-response.ensures.complete e.2 _ m b2 in
    stops _ _ _ _ c.from_residual-in_err-response.ensures (λ x g. g) h

pub returns-clause-complete : goal.returns-clause-complete
returns-clause-complete c x rest m a =
    let y = call_ahead _ _ x rest (λ i. false≢true (c.if-begins_compose.ensures.1 i)) a in
    let b0 = c.in_ok-strictness.ensures.complete y.0 _ (call_may y.1 rest) y.2 in
    let e = method_ahead _ _ y.1 rest (λ e. false≢true (c.if-is_next.ensures.next.1 e)) b0 in
    let b1 = c.in_ok-name-2.ensures.complete e.0 _ tt e.3 in
    let b2 = c.in_ok-request.ensures.complete e.1 _ tt b1 in
    c.in_ok-response.ensures.complete e.2 _ m b2

pub returns-then-begins_compose-clause-reads : goal.returns-then-begins_compose-clause-reads
returns-then-begins_compose-clause-reads c =
    let r1 = reads_join _ _ _ _ _ _ c.in_ok-keyword.ensures.reads c.in_ok-path.ensures.reads in
    r1

pub returns-then-is_next-clause-reads : goal.returns-then-is_next-clause-reads
returns-then-is_next-clause-reads c =
    let r1 = reads_join _ _ _ _ _ _ c.in_ok-strictness.ensures.reads c.in_ok-arrow.ensures.reads in
    let r2 = reads_join _ _ _ _ _ _ r1 c.in_ok-name.ensures.reads in
    let r3 = reads_join _ _ _ _ _ _ r2 c.in_ok-payload.ensures.reads in
    r3

pub returns-clause-reads : goal.returns-clause-reads
returns-clause-reads c =
    let r1 = reads_join _ _ _ _ _ _ c.in_ok-strictness.ensures.reads c.in_ok-name-2.ensures.reads in
    let r2 = reads_join _ _ _ _ _ _ r1 c.in_ok-request.ensures.reads in
    let r3 = reads_join _ _ _ _ _ _ r2 c.in_ok-response.ensures.reads in
    r3
