use Rattle.fidl_method_rules.proofs.Small as small
use Rattle.fidl_method_rules.proofs.worked.ordinals_are_not_zero.Goals as goal

pub returns-clause-refused : goal.returns-clause-refused
returns-clause-refused c = small.zero_refused

pub returns-clause-elsewhere : goal.returns-clause-elsewhere
returns-clause-elsewhere c = λ f openness p m s other h. other h.1

pub returns-clause-not_strict : goal.returns-clause-not_strict
returns-clause-not_strict c = λ f openness p m s other h. other h.1
