use Rattle.std.proofs.Common.{refl}
use Rattle.fidl_span.specs.declared.words.WordKind.TheVariants as kind
use Rattle.fidl_parse.proofs.Ahead.{group}
use Rattle.fidl_parse.proofs.Stops.{stops}
use Rattle.fidl_tree.specs.Leaf.{symbol}
use Rattle.fidl_tree.specs.Declaration.{declaration_body_leaves}
use Rattle.fidl_parse.proofs.Joins.{reads_join}
use Rattle.fidl_parse.proofs.parser.Parser.declaration.Goals as goal

pub returns-in_err-body-clause-complete : goal.returns-in_err-body-clause-complete
returns-in_err-body-clause-complete c x rest m a =
    let a0 = group _ _ (declaration_body_leaves x.body) (symbol kind.Semicolon x.semicolon) rest a in
    let h = c.in_err-body.ensures.complete x.body _ refl a0 in
    stops _ _ _ _ c.from_residual.ensures (λ x g. g) h

pub returns-in_err-semicolon-clause-complete : goal.returns-in_err-semicolon-clause-complete
returns-in_err-semicolon-clause-complete c x rest m a =
    let a0 = group _ _ (declaration_body_leaves x.body) (symbol kind.Semicolon x.semicolon) rest a in
    let b1 = c.in_ok-body.ensures.complete x.body _ refl a0 in
    let h = c.in_err-semicolon.ensures.complete x.semicolon _ tt b1 in
    stops _ _ _ _ c.from_residual-in_err-semicolon.ensures (λ x g. g) h

pub returns-clause-complete : goal.returns-clause-complete
returns-clause-complete c x rest m a =
    let a0 = group _ _ (declaration_body_leaves x.body) (symbol kind.Semicolon x.semicolon) rest a in
    let b1 = c.in_ok-body.ensures.complete x.body _ refl a0 in
    c.in_ok-semicolon.ensures.complete x.semicolon _ tt b1

pub returns-clause-reads : goal.returns-clause-reads
returns-clause-reads c start front =
    let r1 = reads_join _ _ _ _ _ _ front c.in_ok-body.ensures.reads in
    let r2 = reads_join _ _ _ _ _ _ r1 c.in_ok-semicolon.ensures.reads in
    r2
