use Rattle.std.proofs.Common.{◌∙◌, sym, true≢false}
use Rattle.fidl_method_rules.proofs.worked.where_methods_stand.Goals as goal

pub returns-clause-ajar_strict : goal.returns-clause-ajar_strict
returns-clause-ajar_strict c = λ m strict _. strict

pub returns-clause-ajar_one_way : goal.returns-clause-ajar_one_way
returns-clause-ajar_one_way c = λ m one_way two_way. absurd (true≢false (sym two_way ∙ one_way))

pub returns-clause-no_ajar : goal.returns-clause-no_ajar
returns-clause-no_ajar c = λ m two_way flexible stands. true≢false (sym (stands two_way) ∙ flexible)

pub returns-clause-no_closed : goal.returns-clause-no_closed
returns-clause-no_closed c = λ m flexible strict. true≢false (sym strict ∙ flexible)
