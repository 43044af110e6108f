use Rattle.fidl_equivalence.proofs.Levels.{one_message}
use Rattle.fidl_equivalence.proofs.laws.one_type_has_the_same_messages.Goals as goal

pub returns : goal.returns
returns c = one_message
