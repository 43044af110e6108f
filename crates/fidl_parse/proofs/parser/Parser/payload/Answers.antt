use Rattle.std.proofs.Common.{refl}
use Rattle.fidl_parse.proofs.Protocols.{payload_ahead}
use Rattle.fidl_parse.proofs.Stops.{stops}
use Rattle.fidl_parse.proofs.Joins.{reads_join}
use Rattle.fidl_parse.proofs.parser.Parser.payload.Goals as goal

pub returns-in_err-left-clause-complete : goal.returns-in_err-left-clause-complete
returns-in_err-left-clause-complete c x rest m a =
    let a0 = payload_ahead _ _ x rest a in
    let h = c.in_err-left.ensures.complete x.left _ tt a0 in
    stops _ _ _ _ c.from_residual.ensures (λ x g. g) h

pub returns-in_err-constructor-clause-complete : goal.returns-in_err-constructor-clause-complete
returns-in_err-constructor-clause-complete c x rest m a =
    let a0 = payload_ahead _ _ x rest a in
    let b1 = c.in_ok-left.ensures.complete x.left _ tt a0 in
    let h = c.in_err-constructor.ensures.complete x.constructor _ refl b1 in
    stops _ _ _ _ c.from_residual-in_err-constructor.ensures (λ x g. g) h

pub returns-in_err-right-clause-complete : goal.returns-in_err-right-clause-complete
returns-in_err-right-clause-complete c x rest m a =
    let a0 = payload_ahead _ _ x rest a in
    let b1 = c.in_ok-left.ensures.complete x.left _ tt a0 in
    let b2 = c.in_ok-constructor.ensures.complete x.constructor _ refl b1 in
    let h = c.in_err-right.ensures.complete x.right _ tt b2 in
    stops _ _ _ _ c.from_residual-in_err-right.ensures (λ x g. g) h

pub returns-clause-complete : goal.returns-clause-complete
returns-clause-complete c x rest m a =
    let a0 = payload_ahead _ _ x rest a in
    let b1 = c.in_ok-left.ensures.complete x.left _ tt a0 in
    let b2 = c.in_ok-constructor.ensures.complete x.constructor _ refl b1 in
    c.in_ok-right.ensures.complete x.right _ tt b2

pub returns-clause-reads : goal.returns-clause-reads
returns-clause-reads c =
    let r1 = reads_join _ _ _ _ _ _ c.in_ok-left.ensures.reads c.in_ok-constructor.ensures.reads in
    let r2 = reads_join _ _ _ _ _ _ r1 c.in_ok-right.ensures.reads in
    r2
