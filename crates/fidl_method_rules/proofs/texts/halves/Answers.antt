use Rattle.fidl_method_rules.proofs.Cuts.{three_or_more}
use Rattle.fidl_method_rules.proofs.texts.halves.Goals as goal

pub returns-in-Some-clause-none : goal.returns-in-Some-clause-none
returns-in-Some-clause-none c = λ _ first second two.
    three_or_more c.args.byte c.args.text.now c.in_ok-first.first.now c.in_ok-first.rest.now c.in-Some.field-0.0.now c.in-Some.field-0.1.now first second c.in_ok-first.ensures.found c.in-Some.ensures.found two
