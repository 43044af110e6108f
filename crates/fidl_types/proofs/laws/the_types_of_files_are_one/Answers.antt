use Rattle.fidl_lower_layouts.proofs.One.{one_definitions}
use Rattle.fidl_types.proofs.laws.the_types_of_files_are_one.Goals as goal

pub returns : goal.returns
returns c = λ files ts us h k. one_definitions files ts us h.definitions k.definitions
