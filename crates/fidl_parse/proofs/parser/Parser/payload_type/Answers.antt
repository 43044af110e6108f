use Rattle.std.proofs.Common.{refl}
use Rattle.std.proofs.lemmas.Bool.{false≢true}
use Rattle.fidl_span.specs.declared.words.WordKind.TheVariants as kind
use Rattle.fidl_parse.specs.FollowSets.{extends_type}
use Rattle.fidl_parse.proofs.Ahead.{begins_not}
use Rattle.fidl_parse.proofs.Options.{until_none, until_some}
use Rattle.fidl_parse.proofs.Protocols.{type_apart}
use Rattle.fidl_tree.specs.TypeConstructor.{type_leaves}
use Rattle.fidl_parse.proofs.Stops.{stops}
use Rattle.fidl_parse.proofs.parser.Parser.payload_type.Goals as goal

pub returns-then-is_next-clause-complete : goal.returns-then-is_next-clause-complete
returns-then-is_next-clause-complete c x rest m a =
    until_none type_leaves kind.RightParenthesis _ _ x rest type_apart (c.is_next.ensures.next.0 c.if-is_next.true) a

pub returns-in_err-type_constructor-clause-complete : goal.returns-in_err-type_constructor-clause-complete
returns-in_err-type_constructor-clause-complete c x rest m a =
    let y = until_some type_leaves kind.RightParenthesis _ _ x rest m (λ e. false≢true (c.if-is_next.ensures.next.1 e)) a in
    let h = c.in_err-type_constructor.ensures.complete y.0 _ (begins_not extends_type kind.RightParenthesis rest refl m) y.1 in
    stops _ _ _ _ c.from_residual.ensures (λ x g. g) h

pub returns-clause-complete : goal.returns-clause-complete
returns-clause-complete c x rest m a =
    let y = until_some type_leaves kind.RightParenthesis _ _ x rest m (λ e. false≢true (c.if-is_next.ensures.next.1 e)) a in
    c.in_ok-type_constructor.ensures.complete y.0 _ (begins_not extends_type kind.RightParenthesis rest refl m) y.1
