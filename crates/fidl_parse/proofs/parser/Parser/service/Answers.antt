use Rattle.std.proofs.Common.{refl}
use Rattle.fidl_parse.proofs.Declarations.{service_ahead}
use Rattle.fidl_parse.proofs.Stops.{stops}
use Rattle.fidl_parse.proofs.Joins.{reads_join}
use Rattle.fidl_parse.proofs.parser.Parser.service.Goals as goal

pub returns-in_err-keyword-clause-complete : goal.returns-in_err-keyword-clause-complete
returns-in_err-keyword-clause-complete c x rest m a =
    let a0 = service_ahead _ _ x rest a in
    let h = c.in_err-keyword.ensures.complete x.keyword _ tt a0 in
    stops _ _ _ _ c.from_residual.ensures (λ x g. g) h

pub returns-in_err-name-clause-complete : goal.returns-in_err-name-clause-complete
returns-in_err-name-clause-complete c x rest m a =
    let a0 = service_ahead _ _ x rest a in
    let b1 = c.in_ok-keyword.ensures.complete x.keyword _ tt a0 in
    let h = c.in_err-name.ensures.complete x.name _ tt b1 in
    stops _ _ _ _ c.from_residual-in_err-name.ensures (λ x g. g) h

pub returns-in_err-left-clause-complete : goal.returns-in_err-left-clause-complete
returns-in_err-left-clause-complete c x rest m a =
    let a0 = service_ahead _ _ x rest a in
    let b1 = c.in_ok-keyword.ensures.complete x.keyword _ tt a0 in
    let b2 = c.in_ok-name.ensures.complete x.name _ tt b1 in
    let h = c.in_err-left.ensures.complete x.left _ tt b2 in
    stops _ _ _ _ c.from_residual-in_err-left.ensures (λ x g. g) h

pub returns-in_err-members-clause-complete : goal.returns-in_err-members-clause-complete
returns-in_err-members-clause-complete c x rest m a =
    let a0 = service_ahead _ _ x rest a in
    let b1 = c.in_ok-keyword.ensures.complete x.keyword _ tt a0 in
    let b2 = c.in_ok-name.ensures.complete x.name _ tt b1 in
    let b3 = c.in_ok-left.ensures.complete x.left _ tt b2 in
    let h = c.in_err-members.ensures.complete x.members.items _ refl b3 in
    stops _ _ _ _ c.from_residual-in_err-members.ensures (λ x g. g) h

pub returns-in_err-right-clause-complete : goal.returns-in_err-right-clause-complete
returns-in_err-right-clause-complete c x rest m a =
    let a0 = service_ahead _ _ x rest a in
    let b1 = c.in_ok-keyword.ensures.complete x.keyword _ tt a0 in
    let b2 = c.in_ok-name.ensures.complete x.name _ tt b1 in
    let b3 = c.in_ok-left.ensures.complete x.left _ tt b2 in
    let b4 = c.in_ok-members.ensures.complete x.members.items _ refl b3 in
    let h = c.in_err-right.ensures.complete x.right _ tt b4 in
    stops _ _ _ _ c.from_residual-in_err-right.ensures (λ x g. g) h

pub returns-clause-complete : goal.returns-clause-complete
returns-clause-complete c x rest m a =
    let a0 = service_ahead _ _ x rest a in
    let b1 = c.in_ok-keyword.ensures.complete x.keyword _ tt a0 in
    let b2 = c.in_ok-name.ensures.complete x.name _ tt b1 in
    let b3 = c.in_ok-left.ensures.complete x.left _ tt b2 in
    let b4 = c.in_ok-members.ensures.complete x.members.items _ refl b3 in
    c.in_ok-right.ensures.complete x.right _ tt b4

pub returns-clause-reads : goal.returns-clause-reads
returns-clause-reads c =
    let r1 = reads_join _ _ _ _ _ _ c.in_ok-keyword.ensures.reads c.in_ok-name.ensures.reads in
    let r2 = reads_join _ _ _ _ _ _ r1 (reads_join _ _ _ _ _ _ (reads_join _ _ _ _ _ _ c.in_ok-left.ensures.reads c.in_ok-members.ensures.reads) c.in_ok-right.ensures.reads) in
    r2
