use Rattle.std.proofs.Common.{refl}
use Rattle.std.proofs.lemmas.Bool.{false≢true}
use Rattle.fidl_span.specs.declared.words.WordKind.TheVariants as kind
use Rattle.fidl_tree.specs.Leaf.{symbol}
use Rattle.fidl_parse.proofs.Options.{kind_none, kind_some}
use Rattle.fidl_parse.proofs.Follow.{other_begins, is_minus}
use Rattle.fidl_parse.proofs.Stops.{stops}
use Rattle.fidl_parse.proofs.parser.Parser.minus.Goals as goal

pub returns-then-not-is_next-clause-complete : goal.returns-then-not-is_next-clause-complete
returns-then-not-is_next-clause-complete c x rest m a =
    kind_none (symbol kind.Minus) kind.Minus _ _ x rest (λ y ls. refl) (λ e. false≢true (c.if-not-is_next.ensures.next.1 e)) a

pub returns-in_err-symbol-clause-complete : goal.returns-in_err-symbol-clause-complete
returns-in_err-symbol-clause-complete c x rest m a =
    let y = kind_some (symbol kind.Minus) kind.Minus _ _ x rest (other_begins is_minus kind.Minus kind.Number rest refl refl m) (c.is_next.ensures.next.0 c.if-not-is_next.false) a in
    let h = c.in_err-symbol.ensures.complete y.0 _ tt y.1 in
    stops _ _ _ _ c.from_residual.ensures (λ x g. g) h

pub returns-clause-complete : goal.returns-clause-complete
returns-clause-complete c x rest m a =
    let y = kind_some (symbol kind.Minus) kind.Minus _ _ x rest (other_begins is_minus kind.Minus kind.Number rest refl refl m) (c.is_next.ensures.next.0 c.if-not-is_next.false) a in
    c.in_ok-symbol.ensures.complete y.0 _ tt y.1
