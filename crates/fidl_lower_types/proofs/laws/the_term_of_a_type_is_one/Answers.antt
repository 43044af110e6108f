use Rattle.fidl_lower_types.proofs.OneTerm.{one_term}
use Rattle.fidl_lower_types.proofs.laws.the_term_of_a_type_is_one.Goals as goal

pub returns : goal.returns
returns c = one_term
