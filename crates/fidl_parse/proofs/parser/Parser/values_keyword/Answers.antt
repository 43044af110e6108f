use Rattle.std.proofs.lemmas.Bool.{false≢true}
use Rattle.fidl_parse.proofs.Keywords.{bits_ahead, enum_ahead}
use Rattle.fidl_parse.proofs.Stops.{stops}
use Rattle.fidl_parse.proofs.parser.Parser.values_keyword.Goals as goal

pub returns-in_err-keyword-clause-complete : goal.returns-in_err-keyword-clause-complete
returns-in_err-keyword-clause-complete c x rest m a =
    let s = bits_ahead _ _ x rest (c.is_next_word.ensures.next.0 c.if-is_next_word.true) a in
    let h = c.in_err-keyword.ensures.complete s.0 _ tt s.1 in
    stops _ _ _ _ c.from_residual.ensures (λ x g. g) h

pub returns-then-is_next_word-clause-complete : goal.returns-then-is_next_word-clause-complete
returns-then-is_next_word-clause-complete c x rest m a =
    let s = bits_ahead _ _ x rest (c.is_next_word.ensures.next.0 c.if-is_next_word.true) a in
    c.in_ok-keyword.ensures.complete s.0 _ tt s.1

pub returns-in_err-keyword-2-clause-complete : goal.returns-in_err-keyword-2-clause-complete
returns-in_err-keyword-2-clause-complete c x rest m a =
    let s = enum_ahead _ _ x rest (λ e. false≢true (c.if-is_next_word.ensures.next.1 e)) a in
    let h = c.in_err-keyword-2.ensures.complete s.0 _ tt s.1 in
    stops _ _ _ _ c.from_residual-in_err-keyword-2.ensures (λ x g. g) h

pub returns-clause-complete : goal.returns-clause-complete
returns-clause-complete c x rest m a =
    let s = enum_ahead _ _ x rest (λ e. false≢true (c.if-is_next_word.ensures.next.1 e)) a in
    c.in_ok-keyword-2.ensures.complete s.0 _ tt s.1
