use Rattle.std.proofs.Common.{◌∙◌, refl, sym}
use Rattle.indexmap.specs.IndexMap.{get}
use Rattle.fidl_declarations.specs.FormViews.{form_view}
use Rattle.fidl_lower_types.specs.NumberViews.{same_answer, IsAnswerKey}
use Rattle.fidl_lower_types.proofs.Indexing.{one_answer_key, test_answers, stays_unknown, stays_late, stays_known, grows}
use Rattle.fidl_lower_types.proofs.numbers.add_answer.Goals as goal

pub returns-in_default : goal.returns-in_default
returns-in_default c = λ forms at. stays_unknown IsAnswerKey one_answer_key same_answer test_answers forms c.args.index (form_view c.args.form.now) at (get same_answer c.args.answers.now) (c.in_default.ensures.none refl)

pub returns-in_default-small : goal.returns-in_default-small
returns-in_default-small c = λ forms at. stays_late IsAnswerKey one_answer_key same_answer test_answers forms c.args.index (form_view c.args.form.now) at (get same_answer c.args.answers.now) (c.in_default-small.ensures.none refl)

pub returns-then-contains_key : goal.returns-then-contains_key
returns-then-contains_key c = λ forms at. stays_known IsAnswerKey one_answer_key same_answer test_answers forms c.args.index (form_view c.args.form.now) at (get same_answer c.args.answers.now) c.in-Some.key c.in-Some.ensures.found (sym c.contains_key.ensures ∙ c.if-contains_key.true)

pub returns : goal.returns
returns c = λ forms at. grows IsAnswerKey one_answer_key same_answer test_answers forms c.args.index (form_view c.args.form.now) at (get same_answer c.args.answers.now) (get same_answer c.insert.new.self) c.in-Some.key c.in-Some-small.number c.in-Some.ensures.found c.in-Some-small.ensures.found (sym c.contains_key.ensures ∙ c.if-contains_key.false) c.in_ok-insert.ensures.updates.0
