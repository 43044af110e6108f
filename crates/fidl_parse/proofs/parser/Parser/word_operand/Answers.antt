use Rattle.std.proofs.lemmas.Bool.{false≢true}
use Rattle.fidl_parse.proofs.Values.{word_ahead, true_ahead, false_ahead, path_ahead, path_reads}
use Rattle.fidl_parse.proofs.Stops.{stops}
use Rattle.fidl_parse.proofs.parser.Parser.word_operand.Goals as goal

pub returns-in_err-keyword-clause-complete : goal.returns-in_err-keyword-clause-complete
returns-in_err-keyword-clause-complete c i x rest m a =
    let w = word_ahead _ _ x rest i a in
    let y = true_ahead _ _ rest (c.is_next_word.ensures.next.0 c.if-is_next_word.true) w in
    let h = c.in_err-keyword.ensures.complete y.0 _ tt y.1 in
    stops _ _ _ _ c.from_residual.ensures (λ x g. g) h

pub returns-then-is_next_word-clause-complete : goal.returns-then-is_next_word-clause-complete
returns-then-is_next_word-clause-complete c i x rest m a =
    let w = word_ahead _ _ x rest i a in
    let y = true_ahead _ _ rest (c.is_next_word.ensures.next.0 c.if-is_next_word.true) w in
    c.in_ok-keyword.ensures.complete y.0 _ tt y.1

pub returns-in_err-keyword-2-clause-complete : goal.returns-in_err-keyword-2-clause-complete
returns-in_err-keyword-2-clause-complete c i x rest m a =
    let w = word_ahead _ _ x rest i a in
    let y = false_ahead _ _ rest (c.is_next_word-2.ensures.next.0 c.if-is_next_word-2.true) w in
    let h = c.in_err-keyword-2.ensures.complete y.0 _ tt y.1 in
    stops _ _ _ _ c.from_residual-in_err-keyword-2.ensures (λ x g. g) h

pub returns-then-is_next_word-2-clause-complete : goal.returns-then-is_next_word-2-clause-complete
returns-then-is_next_word-2-clause-complete c i x rest m a =
    let w = word_ahead _ _ x rest i a in
    let y = false_ahead _ _ rest (c.is_next_word-2.ensures.next.0 c.if-is_next_word-2.true) w in
    c.in_ok-keyword-2.ensures.complete y.0 _ tt y.1

pub returns-in_err-first-clause-complete : goal.returns-in_err-first-clause-complete
returns-in_err-first-clause-complete c i x rest m a =
    let w = word_ahead _ _ x rest i a in
    let y = path_ahead _ _ rest (λ e. false≢true (c.if-is_next_word.ensures.next.1 e)) (λ e. false≢true (c.if-is_next_word-2.ensures.next.1 e)) w in
    let h = c.in_err-first.ensures.complete y.0.first _ tt y.1 in
    stops _ _ _ _ c.from_residual-in_err-first.ensures (λ x g. g) h

pub returns-in_err-rest-clause-complete : goal.returns-in_err-rest-clause-complete
returns-in_err-rest-clause-complete c i x rest m a =
    let w = word_ahead _ _ x rest i a in
    let y = path_ahead _ _ rest (λ e. false≢true (c.if-is_next_word.ensures.next.1 e)) (λ e. false≢true (c.if-is_next_word-2.ensures.next.1 e)) w in
    let b = c.in_ok-first.ensures.complete y.0.first _ tt y.1 in
    let h = c.in_err-rest.ensures.complete y.0.rest.items _ m b in
    stops _ _ _ _ c.from_residual-in_err-rest.ensures (λ x g. g) h

pub returns-clause-complete : goal.returns-clause-complete
returns-clause-complete c i x rest m a =
    let w = word_ahead _ _ x rest i a in
    let y = path_ahead _ _ rest (λ e. false≢true (c.if-is_next_word.ensures.next.1 e)) (λ e. false≢true (c.if-is_next_word-2.ensures.next.1 e)) w in
    let b = c.in_ok-first.ensures.complete y.0.first _ tt y.1 in
    c.in_ok-rest.ensures.complete y.0.rest.items _ m b

pub returns-clause-reads : goal.returns-clause-reads
returns-clause-reads c =
    path_reads _ _ _ _ (record { first = c.in_ok-first.first; rest = c.in_ok-rest.rest }) c.in_ok-first.ensures.reads c.in_ok-rest.ensures.reads
