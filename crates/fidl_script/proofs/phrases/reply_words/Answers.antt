use Rattle.fidl_script.proofs.Splitting.{no_reply_front, no_method_word, method_alone, method_and_text}
use Rattle.fidl_script.proofs.Passing.{if_none}
use Rattle.fidl_script.proofs.phrases.reply_words.Goals as goal

pub returns-in_err-words-clause-none : goal.returns-in_err-words-clause-none
returns-in_err-words-clause-none c = if_none _ _ c.from_residual.ensures (no_reply_front c.args.line.now c.in_err-words.ensures.cases)

pub returns-then-end-eq0-clause-none : goal.returns-then-end-eq0-clause-none
returns-then-end-eq0-clause-none c = no_method_word c.args.line.now c.in_ok-words.words.now c.in_ok-words.ensures.cases.1 c.place_of-end.result c.place_of-end.ensures.found c.if-end-eq0.true

pub returns-then-end-words-clause-found : goal.returns-then-end-words-clause-found
returns-then-end-words-clause-found c =
    let cases = c.in_ok-words.ensures.cases in
    method_alone c.args.line.now c.in_ok-words.words.now cases.1 c.place_of-end.result c.place_of-end.ensures.found cases.0 c.if-end-eq0.false c.place_of-end.ensures.before c.if-end-words.true

pub returns-clause-found : goal.returns-clause-found
returns-clause-found c =
    let cases = c.in_ok-words.ensures.cases in
    method_and_text c.args.line.now c.in_ok-words.words.now cases.1 c.place_of-end.result c.place_of-end.ensures.found cases.0 c.if-end-eq0.false c.place_of-end.ensures.before c.place_of-end.ensures.within c.if-end-words.false
