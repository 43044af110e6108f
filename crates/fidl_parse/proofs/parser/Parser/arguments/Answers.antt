use Rattle.std.proofs.Common.{refl}
use Rattle.std.proofs.lemmas.Bool.{false≢true}
use Rattle.fidl_span.specs.declared.words.WordKind.TheVariants as kind
use Rattle.fidl_tree.specs.Attribute.{arguments_leaves}
use Rattle.fidl_parse.specs.FollowSets.{extends_attribute}
use Rattle.fidl_parse.proofs.Ahead.{not_begins}
use Rattle.fidl_parse.proofs.Options.{kind_none, kind_some}
use Rattle.fidl_parse.proofs.Attributes.{arguments_begin, arguments_ahead}
use Rattle.fidl_parse.proofs.Stops.{stops}
use Rattle.fidl_parse.proofs.Joins.{reads_join}
use Rattle.fidl_parse.proofs.parser.Parser.arguments.Goals as goal

pub returns-then-not-is_next-clause-complete : goal.returns-then-not-is_next-clause-complete
returns-then-not-is_next-clause-complete c x rest m a =
    kind_none arguments_leaves kind.LeftParenthesis _ _ x rest arguments_begin (λ e. false≢true (c.if-not-is_next.ensures.next.1 e)) a

pub returns-in_err-left-clause-complete : goal.returns-in_err-left-clause-complete
returns-in_err-left-clause-complete c x rest m a =
    let y = kind_some arguments_leaves kind.LeftParenthesis _ _ x rest (not_begins extends_attribute kind.LeftParenthesis rest refl m) (c.is_next.ensures.next.0 c.if-not-is_next.false) a in
    let a0 = arguments_ahead _ _ y.0 rest y.1 in
    let h = c.in_err-left.ensures.complete y.0.left _ tt a0 in
    stops _ _ _ _ c.from_residual.ensures (λ x g. g) h

pub returns-in_err-list-clause-complete : goal.returns-in_err-list-clause-complete
returns-in_err-list-clause-complete c x rest m a =
    let y = kind_some arguments_leaves kind.LeftParenthesis _ _ x rest (not_begins extends_attribute kind.LeftParenthesis rest refl m) (c.is_next.ensures.next.0 c.if-not-is_next.false) a in
    let a0 = arguments_ahead _ _ y.0 rest y.1 in
    let b1 = c.in_ok-left.ensures.complete y.0.left _ tt a0 in
    let h = c.in_err-list.ensures.complete y.0.list _ refl b1 in
    stops _ _ _ _ c.from_residual-in_err-list.ensures (λ x g. g) h

pub returns-in_err-right-clause-complete : goal.returns-in_err-right-clause-complete
returns-in_err-right-clause-complete c x rest m a =
    let y = kind_some arguments_leaves kind.LeftParenthesis _ _ x rest (not_begins extends_attribute kind.LeftParenthesis rest refl m) (c.is_next.ensures.next.0 c.if-not-is_next.false) a in
    let a0 = arguments_ahead _ _ y.0 rest y.1 in
    let b1 = c.in_ok-left.ensures.complete y.0.left _ tt a0 in
    let b2 = c.in_ok-list.ensures.complete y.0.list _ refl b1 in
    let h = c.in_err-right.ensures.complete y.0.right _ tt b2 in
    stops _ _ _ _ c.from_residual-in_err-right.ensures (λ x g. g) h

pub returns-clause-complete : goal.returns-clause-complete
returns-clause-complete c x rest m a =
    let y = kind_some arguments_leaves kind.LeftParenthesis _ _ x rest (not_begins extends_attribute kind.LeftParenthesis rest refl m) (c.is_next.ensures.next.0 c.if-not-is_next.false) a in
    let a0 = arguments_ahead _ _ y.0 rest y.1 in
    let b1 = c.in_ok-left.ensures.complete y.0.left _ tt a0 in
    let b2 = c.in_ok-list.ensures.complete y.0.list _ refl b1 in
    c.in_ok-right.ensures.complete y.0.right _ tt b2

pub returns-clause-reads : goal.returns-clause-reads
returns-clause-reads c =
    let r1 = reads_join _ _ _ _ _ _ c.in_ok-left.ensures.reads c.in_ok-list.ensures.reads in
    let r2 = reads_join _ _ _ _ _ _ r1 c.in_ok-right.ensures.reads in
    r2
