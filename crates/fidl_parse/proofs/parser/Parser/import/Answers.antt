use Rattle.std.proofs.Common.{refl}
use Rattle.fidl_parse.proofs.Files.{import_ahead, alias_may}
use Rattle.fidl_parse.proofs.Stops.{stops}
use Rattle.fidl_parse.proofs.Joins.{reads_join}
use Rattle.fidl_parse.proofs.parser.Parser.import.Goals as goal

pub returns-in_err-keyword-clause-complete : goal.returns-in_err-keyword-clause-complete
returns-in_err-keyword-clause-complete c x rest m a =
    let a0 = import_ahead _ _ x rest a in
    let h = c.in_err-keyword.ensures.complete x.keyword _ tt a0 in
    stops _ _ _ _ c.from_residual.ensures (λ x g. g) h

pub returns-in_err-path-clause-complete : goal.returns-in_err-path-clause-complete
returns-in_err-path-clause-complete c x rest m a =
    let a0 = import_ahead _ _ x rest a in
    let b1 = c.in_ok-keyword.ensures.complete x.keyword _ tt a0 in
    let h = c.in_err-path.ensures.complete x.path _ (alias_may x.alias x rest) b1 in
    stops _ _ _ _ c.from_residual-in_err-path.ensures (λ x g. g) h

pub returns-in_err-alias-clause-complete : goal.returns-in_err-alias-clause-complete
returns-in_err-alias-clause-complete c x rest m a =
    let a0 = import_ahead _ _ x rest a in
    let b1 = c.in_ok-keyword.ensures.complete x.keyword _ tt a0 in
    let b2 = c.in_ok-path.ensures.complete x.path _ (alias_may x.alias x rest) b1 in
    let h = c.in_err-alias.ensures.complete x.alias _ refl b2 in
    stops _ _ _ _ c.from_residual-in_err-alias.ensures (λ x g. g) h

pub returns-in_err-semicolon-clause-complete : goal.returns-in_err-semicolon-clause-complete
returns-in_err-semicolon-clause-complete c x rest m a =
    let a0 = import_ahead _ _ x rest a in
    let b1 = c.in_ok-keyword.ensures.complete x.keyword _ tt a0 in
    let b2 = c.in_ok-path.ensures.complete x.path _ (alias_may x.alias x rest) b1 in
    let b3 = c.in_ok-alias.ensures.complete x.alias _ refl b2 in
    let h = c.in_err-semicolon.ensures.complete x.semicolon _ tt b3 in
    stops _ _ _ _ c.from_residual-in_err-semicolon.ensures (λ x g. g) h

pub returns-clause-complete : goal.returns-clause-complete
returns-clause-complete c x rest m a =
    let a0 = import_ahead _ _ x rest a in
    let b1 = c.in_ok-keyword.ensures.complete x.keyword _ tt a0 in
    let b2 = c.in_ok-path.ensures.complete x.path _ (alias_may x.alias x rest) b1 in
    let b3 = c.in_ok-alias.ensures.complete x.alias _ refl b2 in
    c.in_ok-semicolon.ensures.complete x.semicolon _ tt b3

pub returns-clause-reads : goal.returns-clause-reads
returns-clause-reads c start front =
    let r1 = reads_join _ _ _ _ _ _ front c.in_ok-keyword.ensures.reads in
    let r2 = reads_join _ _ _ _ _ _ r1 c.in_ok-path.ensures.reads in
    let r3 = reads_join _ _ _ _ _ _ r2 c.in_ok-alias.ensures.reads in
    let r4 = reads_join _ _ _ _ _ _ r3 c.in_ok-semicolon.ensures.reads in
    r4
