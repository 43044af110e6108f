use Rattle.std.proofs.Common.{List, ℕ, sym, ap, ◌∙◌}
use Rattle.fidl_requests.specs.declared.verdict.Verdict.{Verdict}
use Rattle.fidl_serve.specs.Replying.{reply, answer_of, script_after}
use Rattle.fidl_serve.specs.Cursors.{left_of}
use Rattle.fidl_serve.proofs.answer.react.Goals as goal

pub returns-in-Silence-clause-answer : goal.returns-in-Silence-clause-answer
unfolding answer_of
returns-in-Silence-clause-answer c = ap (λ (v : Verdict). answer_of (left_of c.args.script.now c.args.places.now) v) c.in-Silence.is

pub returns-in-Silence-clause-next : goal.returns-in-Silence-clause-next
unfolding script_after
returns-in-Silence-clause-next c = sym (ap (λ (v : Verdict). script_after (left_of c.args.script.now c.args.places.now) v) c.in-Silence.is)

pub returns-in-Unknown-clause-answer : goal.returns-in-Unknown-clause-answer
unfolding answer_of
returns-in-Unknown-clause-answer c = ap (λ (v : Verdict). answer_of (left_of c.args.script.now c.args.places.now) v) c.in-Unknown.is ∙ ap (λ (l : List ℕ). reply l) (sym c.reply_to_unknown.ensures.frame)

pub returns-in-Unknown-clause-next : goal.returns-in-Unknown-clause-next
unfolding script_after
returns-in-Unknown-clause-next c = sym (ap (λ (v : Verdict). script_after (left_of c.args.script.now c.args.places.now) v) c.in-Unknown.is)

pub returns-in-End-clause-answer : goal.returns-in-End-clause-answer
unfolding answer_of
returns-in-End-clause-answer c = ap (λ (v : Verdict). answer_of (left_of c.args.script.now c.args.places.now) v) c.in-End.is

pub returns-in-End-clause-next : goal.returns-in-End-clause-next
unfolding script_after
returns-in-End-clause-next c = sym (ap (λ (v : Verdict). script_after (left_of c.args.script.now c.args.places.now) v) c.in-End.is)
