use Rattle.fidl_lower_layouts.proofs.One.{one_definitions}
use Rattle.fidl_lower_layouts.proofs.laws.the_definitions_of_files_are_one.Goals as goal

pub returns : goal.returns
returns c = one_definitions
