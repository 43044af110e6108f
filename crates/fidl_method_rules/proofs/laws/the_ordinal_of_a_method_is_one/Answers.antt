use Rattle.fidl_method_rules.proofs.Excluded.{ordinal_once}
use Rattle.fidl_method_rules.proofs.laws.the_ordinal_of_a_method_is_one.Goals as goal

pub returns : goal.returns
returns c = λ f protocol m a b g h. ordinal_once f protocol m a b g h
