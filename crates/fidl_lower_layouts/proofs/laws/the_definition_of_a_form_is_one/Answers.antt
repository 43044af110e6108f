use Rattle.fidl_lower_layouts.proofs.One.{one_definition}
use Rattle.fidl_lower_layouts.proofs.laws.the_definition_of_a_form_is_one.Goals as goal

pub returns : goal.returns
returns c = one_definition
