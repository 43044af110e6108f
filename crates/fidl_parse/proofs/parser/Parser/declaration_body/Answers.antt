use Rattle.std.proofs.lemmas.Bool.{false≢true}
use Rattle.fidl_parse.proofs.Declarations.{const_body_ahead, alias_body_ahead, type_declaration_body_ahead, service_body_ahead, resource_body_ahead, protocol_body_ahead}
use Rattle.fidl_parse.proofs.Stops.{stops}
use Rattle.fidl_parse.proofs.parser.Parser.declaration_body.Goals as goal

pub returns-in_err-constant-clause-complete : goal.returns-in_err-constant-clause-complete
returns-in_err-constant-clause-complete c x rest m a =
    let y = const_body_ahead _ _ x rest (c.is_next_word.ensures.next.0 c.if-is_next_word.true) a in
    let h = c.in_err-constant.ensures.complete y.0 _ m y.1 in
    stops _ _ _ _ c.from_residual.ensures (λ x g. g) h

pub returns-then-is_next_word-clause-complete : goal.returns-then-is_next_word-clause-complete
returns-then-is_next_word-clause-complete c x rest m a =
    let y = const_body_ahead _ _ x rest (c.is_next_word.ensures.next.0 c.if-is_next_word.true) a in
    c.in_ok-constant.ensures.complete y.0 _ m y.1

pub returns-in_err-alias-clause-complete : goal.returns-in_err-alias-clause-complete
returns-in_err-alias-clause-complete c x rest m a =
    let y = alias_body_ahead _ _ x rest (c.is_next_word-2.ensures.next.0 c.if-is_next_word-2.true) a in
    let h = c.in_err-alias.ensures.complete y.0 _ m y.1 in
    stops _ _ _ _ c.from_residual-in_err-alias.ensures (λ x g. g) h

pub returns-then-is_next_word-2-clause-complete : goal.returns-then-is_next_word-2-clause-complete
returns-then-is_next_word-2-clause-complete c x rest m a =
    let y = alias_body_ahead _ _ x rest (c.is_next_word-2.ensures.next.0 c.if-is_next_word-2.true) a in
    c.in_ok-alias.ensures.complete y.0 _ m y.1

pub returns-in_err-type_declaration-clause-complete : goal.returns-in_err-type_declaration-clause-complete
returns-in_err-type_declaration-clause-complete c x rest m a =
    let y = type_declaration_body_ahead _ _ x rest (c.is_next_word-3.ensures.next.0 c.if-is_next_word-3.true) a in
    let h = c.in_err-type_declaration.ensures.complete y.0 _ tt y.1 in
    stops _ _ _ _ c.from_residual-in_err-type_declaration.ensures (λ x g. g) h

pub returns-then-is_next_word-3-clause-complete : goal.returns-then-is_next_word-3-clause-complete
returns-then-is_next_word-3-clause-complete c x rest m a =
    let y = type_declaration_body_ahead _ _ x rest (c.is_next_word-3.ensures.next.0 c.if-is_next_word-3.true) a in
    c.in_ok-type_declaration.ensures.complete y.0 _ tt y.1

pub returns-in_err-service-clause-complete : goal.returns-in_err-service-clause-complete
returns-in_err-service-clause-complete c x rest m a =
    let y = service_body_ahead _ _ x rest (c.is_next_word-4.ensures.next.0 c.if-is_next_word-4.true) a in
    let h = c.in_err-service.ensures.complete y.0 _ tt y.1 in
    stops _ _ _ _ c.from_residual-in_err-service.ensures (λ x g. g) h

pub returns-then-is_next_word-4-clause-complete : goal.returns-then-is_next_word-4-clause-complete
returns-then-is_next_word-4-clause-complete c x rest m a =
    let y = service_body_ahead _ _ x rest (c.is_next_word-4.ensures.next.0 c.if-is_next_word-4.true) a in
    c.in_ok-service.ensures.complete y.0 _ tt y.1

pub returns-in_err-resource_definition-clause-complete : goal.returns-in_err-resource_definition-clause-complete
returns-in_err-resource_definition-clause-complete c x rest m a =
    let y = resource_body_ahead _ _ x rest (c.is_next_word-5.ensures.next.0 c.if-is_next_word-5.true) a in
    let h = c.in_err-resource_definition.ensures.complete y.0 _ tt y.1 in
    stops _ _ _ _ c.from_residual-in_err-resource_definition.ensures (λ x g. g) h

pub returns-then-is_next_word-5-clause-complete : goal.returns-then-is_next_word-5-clause-complete
returns-then-is_next_word-5-clause-complete c x rest m a =
    let y = resource_body_ahead _ _ x rest (c.is_next_word-5.ensures.next.0 c.if-is_next_word-5.true) a in
    c.in_ok-resource_definition.ensures.complete y.0 _ tt y.1

pub returns-in_err-protocol-clause-complete : goal.returns-in_err-protocol-clause-complete
returns-in_err-protocol-clause-complete c x rest m a =
    let y = protocol_body_ahead _ _ x rest (λ e. false≢true (c.if-is_next_word.ensures.next.1 e)) (λ e. false≢true (c.if-is_next_word-2.ensures.next.1 e)) (λ e. false≢true (c.if-is_next_word-3.ensures.next.1 e)) (λ e. false≢true (c.if-is_next_word-4.ensures.next.1 e)) (λ e. false≢true (c.if-is_next_word-5.ensures.next.1 e)) a in
    let h = c.in_err-protocol.ensures.complete y.0 _ tt y.1 in
    stops _ _ _ _ c.from_residual-in_err-protocol.ensures (λ x g. g) h

pub returns-clause-complete : goal.returns-clause-complete
returns-clause-complete c x rest m a =
    let y = protocol_body_ahead _ _ x rest (λ e. false≢true (c.if-is_next_word.ensures.next.1 e)) (λ e. false≢true (c.if-is_next_word-2.ensures.next.1 e)) (λ e. false≢true (c.if-is_next_word-3.ensures.next.1 e)) (λ e. false≢true (c.if-is_next_word-4.ensures.next.1 e)) (λ e. false≢true (c.if-is_next_word-5.ensures.next.1 e)) a in
    c.in_ok-protocol.ensures.complete y.0 _ tt y.1
