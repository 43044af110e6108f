use Rattle.std.proofs.lemmas.Bool.{false≢true}
use Rattle.fidl_span.specs.declared.words.WordKind.TheVariants as kind
use Rattle.fidl_tree.specs.Attribute.{argument_list_leaves}
use Rattle.fidl_parse.proofs.Ahead.{group}
use Rattle.fidl_parse.proofs.Options.{until_none, until_some}
use Rattle.fidl_parse.proofs.Attributes.{list_apart, arguments_end}
use Rattle.fidl_parse.proofs.Stops.{stops}
use Rattle.fidl_parse.proofs.Joins.{reads_join}
use Rattle.fidl_parse.proofs.parser.Parser.argument_list.Goals as goal

pub returns-then-is_next-clause-complete : goal.returns-then-is_next-clause-complete
returns-then-is_next-clause-complete c x rest m a =
    until_none argument_list_leaves kind.RightParenthesis _ _ x rest list_apart (c.is_next.ensures.next.0 c.if-is_next.true) a

pub returns-in_err-first-clause-complete : goal.returns-in_err-first-clause-complete
returns-in_err-first-clause-complete c x rest m a =
    let y = until_some argument_list_leaves kind.RightParenthesis _ _ x rest m (λ e. false≢true (c.if-is_next.ensures.next.1 e)) a in
    let a0 = group _ _ _ _ rest y.1 in
    let h = c.in_err-first.ensures.complete y.0.first _ (arguments_end y.0.rest.items rest m) a0 in
    stops _ _ _ _ c.from_residual.ensures (λ x g. g) h

pub returns-in_err-rest-clause-complete : goal.returns-in_err-rest-clause-complete
returns-in_err-rest-clause-complete c x rest m a =
    let y = until_some argument_list_leaves kind.RightParenthesis _ _ x rest m (λ e. false≢true (c.if-is_next.ensures.next.1 e)) a in
    let a0 = group _ _ _ _ rest y.1 in
    let b1 = c.in_ok-first.ensures.complete y.0.first _ (arguments_end y.0.rest.items rest m) a0 in
    let h = c.in_err-rest.ensures.complete y.0.rest.items _ m b1 in
    stops _ _ _ _ c.from_residual-in_err-rest.ensures (λ x g. g) h

pub returns-clause-complete : goal.returns-clause-complete
returns-clause-complete c x rest m a =
    let y = until_some argument_list_leaves kind.RightParenthesis _ _ x rest m (λ e. false≢true (c.if-is_next.ensures.next.1 e)) a in
    let a0 = group _ _ _ _ rest y.1 in
    let b1 = c.in_ok-first.ensures.complete y.0.first _ (arguments_end y.0.rest.items rest m) a0 in
    c.in_ok-rest.ensures.complete y.0.rest.items _ m b1

pub returns-clause-reads : goal.returns-clause-reads
returns-clause-reads c =
    let r1 = reads_join _ _ _ _ _ _ c.in_ok-first.ensures.reads c.in_ok-rest.ensures.reads in
    r1
