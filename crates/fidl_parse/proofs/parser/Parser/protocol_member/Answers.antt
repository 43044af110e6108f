use Rattle.std.proofs.Common.{refl}
use Rattle.fidl_parse.proofs.Protocols.{body_may, protocol_member_ahead}
use Rattle.fidl_parse.proofs.Stops.{stops}
use Rattle.fidl_parse.proofs.Joins.{reads_join}
use Rattle.fidl_parse.proofs.parser.Parser.protocol_member.Goals as goal

pub returns-in_err-attributes-clause-complete : goal.returns-in_err-attributes-clause-complete
returns-in_err-attributes-clause-complete c x rest m a =
    let a0 = protocol_member_ahead _ _ x rest a in
    let h = c.in_err-attributes.ensures.complete x.attributes.items _ (body_may x.body _) a0 in
    stops _ _ _ _ c.from_residual.ensures (λ x g. g) h

pub returns-in_err-body-clause-complete : goal.returns-in_err-body-clause-complete
returns-in_err-body-clause-complete c x rest m a =
    let a0 = protocol_member_ahead _ _ x rest a in
    let b1 = c.in_ok-attributes.ensures.complete x.attributes.items _ (body_may x.body _) a0 in
    let h = c.in_err-body.ensures.complete x.body _ refl b1 in
    stops _ _ _ _ c.from_residual-in_err-body.ensures (λ x g. g) h

pub returns-in_err-semicolon-clause-complete : goal.returns-in_err-semicolon-clause-complete
returns-in_err-semicolon-clause-complete c x rest m a =
    let a0 = protocol_member_ahead _ _ x rest a in
    let b1 = c.in_ok-attributes.ensures.complete x.attributes.items _ (body_may x.body _) a0 in
    let b2 = c.in_ok-body.ensures.complete x.body _ refl b1 in
    let h = c.in_err-semicolon.ensures.complete x.semicolon _ tt b2 in
    stops _ _ _ _ c.from_residual-in_err-semicolon.ensures (λ x g. g) h

pub returns-clause-complete : goal.returns-clause-complete
returns-clause-complete c x rest m a =
    let a0 = protocol_member_ahead _ _ x rest a in
    let b1 = c.in_ok-attributes.ensures.complete x.attributes.items _ (body_may x.body _) a0 in
    let b2 = c.in_ok-body.ensures.complete x.body _ refl b1 in
    c.in_ok-semicolon.ensures.complete x.semicolon _ tt b2

pub returns-clause-reads : goal.returns-clause-reads
returns-clause-reads c =
    let r1 = reads_join _ _ _ _ _ _ c.in_ok-attributes.ensures.reads c.in_ok-body.ensures.reads in
    let r2 = reads_join _ _ _ _ _ _ r1 c.in_ok-semicolon.ensures.reads in
    r2
