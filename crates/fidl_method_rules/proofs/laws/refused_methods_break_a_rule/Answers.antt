use Rattle.fidl_method_rules.proofs.Excluded.{protocol_excluded, refused_excluded}
use Rattle.fidl_method_rules.proofs.laws.refused_methods_break_a_rule.Goals as goal

pub returns-clause-broken : goal.returns-clause-broken
returns-clause-broken c = λ f openness protocol members rule span h holds. protocol_excluded f protocol openness members rule span h holds

pub returns-clause-refused : goal.returns-clause-refused
returns-clause-refused c = λ number f openness protocol members fault other h holds. refused_excluded f protocol number openness members fault other h holds
