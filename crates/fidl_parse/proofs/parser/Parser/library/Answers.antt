use Rattle.std.proofs.Common.{refl}
use Rattle.fidl_parse.proofs.Files.{library_ahead}
use Rattle.fidl_parse.proofs.Stops.{stops}
use Rattle.fidl_parse.proofs.Joins.{reads_join}
use Rattle.fidl_parse.proofs.parser.Parser.library.Goals as goal

pub returns-in_err-attributes-clause-complete : goal.returns-in_err-attributes-clause-complete
returns-in_err-attributes-clause-complete c x rest m a =
    let a0 = library_ahead _ _ x rest a in
    let h = c.in_err-attributes.ensures.complete x.attributes.items _ refl a0 in
    stops _ _ _ _ c.from_residual.ensures (λ x g. g) h

pub returns-in_err-keyword-clause-complete : goal.returns-in_err-keyword-clause-complete
returns-in_err-keyword-clause-complete c x rest m a =
    let a0 = library_ahead _ _ x rest a in
    let b1 = c.in_ok-attributes.ensures.complete x.attributes.items _ refl a0 in
    let h = c.in_err-keyword.ensures.complete x.keyword _ tt b1 in
    stops _ _ _ _ c.from_residual-in_err-keyword.ensures (λ x g. g) h

pub returns-in_err-path-clause-complete : goal.returns-in_err-path-clause-complete
returns-in_err-path-clause-complete c x rest m a =
    let a0 = library_ahead _ _ x rest a in
    let b1 = c.in_ok-attributes.ensures.complete x.attributes.items _ refl a0 in
    let b2 = c.in_ok-keyword.ensures.complete x.keyword _ tt b1 in
    let h = c.in_err-path.ensures.complete x.path _ refl b2 in
    stops _ _ _ _ c.from_residual-in_err-path.ensures (λ x g. g) h

pub returns-in_err-semicolon-clause-complete : goal.returns-in_err-semicolon-clause-complete
returns-in_err-semicolon-clause-complete c x rest m a =
    let a0 = library_ahead _ _ x rest a in
    let b1 = c.in_ok-attributes.ensures.complete x.attributes.items _ refl a0 in
    let b2 = c.in_ok-keyword.ensures.complete x.keyword _ tt b1 in
    let b3 = c.in_ok-path.ensures.complete x.path _ refl b2 in
    let h = c.in_err-semicolon.ensures.complete x.semicolon _ tt b3 in
    stops _ _ _ _ c.from_residual-in_err-semicolon.ensures (λ x g. g) h

pub returns-clause-complete : goal.returns-clause-complete
returns-clause-complete c x rest m a =
    let a0 = library_ahead _ _ x rest a in
    let b1 = c.in_ok-attributes.ensures.complete x.attributes.items _ refl a0 in
    let b2 = c.in_ok-keyword.ensures.complete x.keyword _ tt b1 in
    let b3 = c.in_ok-path.ensures.complete x.path _ refl b2 in
    c.in_ok-semicolon.ensures.complete x.semicolon _ tt b3

pub returns-clause-reads : goal.returns-clause-reads
returns-clause-reads c =
    let r1 = reads_join _ _ _ _ _ _ c.in_ok-attributes.ensures.reads c.in_ok-keyword.ensures.reads in
    let r2 = reads_join _ _ _ _ _ _ r1 c.in_ok-path.ensures.reads in
    let r3 = reads_join _ _ _ _ _ _ r2 c.in_ok-semicolon.ensures.reads in
    r3
