use Rattle.std.proofs.Common.{◌≡◌, ℕ, Option, ap, sym, subst, ◌∙◌}
use Rattle.std.specs.Prelude.{is_some, IfSome}
use Rattle.std.proofs.lemmas.Option.{IfSome_then}
use Rattle.indexmap.specs.IndexMap.{get}
use Rattle.fidl_lower_types.specs.Numbers.{all_forms, IsFirst, IsAnswerAt}
use Rattle.fidl_lower_types.specs.NumberViews.{answer_key, same_answer}
use Rattle.fidl_lower_types.proofs.Indexing.{answer_first, first_answer}
use Rattle.fidl_lower_types.proofs.answers.answer_number.Goals as goal

pub returns-clause-found : goal.returns-clause-found
returns-clause-found c =
    let s = c.args.sources.now in
    let forms = all_forms s.named.now in
    let key = answer_key c.args.file_index c.args.is_empty c.args.protocol c.args.method in
    let held : c.copied.result ≡ get same_answer s.numbers.now.answers key = c.copied.ensures ∙ c.get.ensures.value ∙ ap (get same_answer s.numbers.now.answers) c.answer_key-key.ensures in
    subst (λ (o : Option ℕ). IfSome o (IsFirst forms (IsAnswerAt c.args.file_index c.args.is_empty c.args.protocol c.args.method))) (sym held)
    (IfSome_then (get same_answer s.numbers.now.answers key) (c.requires.numbers.answers.found key) (answer_first forms c.args.file_index c.args.is_empty c.args.protocol c.args.method))

pub returns-clause-none : goal.returns-clause-none
returns-clause-none c = λ none i first.
    let s = c.args.sources.now in
    let key = answer_key c.args.file_index c.args.is_empty c.args.protocol c.args.method in
    let held : c.copied.result ≡ get same_answer s.numbers.now.answers key = c.copied.ensures ∙ c.get.ensures.value ∙ ap (get same_answer s.numbers.now.answers) c.answer_key-key.ensures in
    c.requires.numbers.answers.none key (sym (ap is_some held) ∙ none) i (first_answer (all_forms s.named.now) c.args.file_index c.args.is_empty c.args.protocol c.args.method i first)
