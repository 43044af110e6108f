use Rattle.std.proofs.lemmas.Bool.{false≢true}
use Rattle.fidl_parse.proofs.Keywords.{open_ahead, ajar_ahead, closed_ahead, no_openness}
use Rattle.fidl_parse.proofs.Stops.{stops}
use Rattle.fidl_parse.proofs.parser.Parser.openness.Goals as goal

pub returns-in_err-keyword-clause-complete : goal.returns-in_err-keyword-clause-complete
returns-in_err-keyword-clause-complete c x rest m a =
    let s = open_ahead _ _ x rest (c.is_next_word.ensures.next.0 c.if-is_next_word.true) m a in
    let h = c.in_err-keyword.ensures.complete s.0 _ tt s.1 in
    stops _ _ _ _ c.from_residual.ensures (λ x g. g) h

pub returns-then-is_next_word-clause-complete : goal.returns-then-is_next_word-clause-complete
returns-then-is_next_word-clause-complete c x rest m a =
    let s = open_ahead _ _ x rest (c.is_next_word.ensures.next.0 c.if-is_next_word.true) m a in
    c.in_ok-keyword.ensures.complete s.0 _ tt s.1

pub returns-in_err-keyword-2-clause-complete : goal.returns-in_err-keyword-2-clause-complete
returns-in_err-keyword-2-clause-complete c x rest m a =
    let s = ajar_ahead _ _ x rest (c.is_next_word-2.ensures.next.0 c.if-is_next_word-2.true) m a in
    let h = c.in_err-keyword-2.ensures.complete s.0 _ tt s.1 in
    stops _ _ _ _ c.from_residual-in_err-keyword-2.ensures (λ x g. g) h

pub returns-then-is_next_word-2-clause-complete : goal.returns-then-is_next_word-2-clause-complete
returns-then-is_next_word-2-clause-complete c x rest m a =
    let s = ajar_ahead _ _ x rest (c.is_next_word-2.ensures.next.0 c.if-is_next_word-2.true) m a in
    c.in_ok-keyword-2.ensures.complete s.0 _ tt s.1

pub returns-in_err-keyword-3-clause-complete : goal.returns-in_err-keyword-3-clause-complete
returns-in_err-keyword-3-clause-complete c x rest m a =
    let s = closed_ahead _ _ x rest (c.is_next_word-3.ensures.next.0 c.if-is_next_word-3.true) m a in
    let h = c.in_err-keyword-3.ensures.complete s.0 _ tt s.1 in
    stops _ _ _ _ c.from_residual-in_err-keyword-3.ensures (λ x g. g) h

pub returns-then-is_next_word-3-clause-complete : goal.returns-then-is_next_word-3-clause-complete
returns-then-is_next_word-3-clause-complete c x rest m a =
    let s = closed_ahead _ _ x rest (c.is_next_word-3.ensures.next.0 c.if-is_next_word-3.true) m a in
    c.in_ok-keyword-3.ensures.complete s.0 _ tt s.1

pub returns-clause-complete : goal.returns-clause-complete
returns-clause-complete c x rest m a =
    no_openness _ _ x rest (λ e. false≢true (c.if-is_next_word.ensures.next.1 e)) (λ e. false≢true (c.if-is_next_word-2.ensures.next.1 e)) (λ e. false≢true (c.if-is_next_word-3.ensures.next.1 e)) a
