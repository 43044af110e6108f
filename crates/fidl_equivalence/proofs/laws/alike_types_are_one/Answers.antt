use Rattle.fidl_equivalence.proofs.Levels.{alike_types}
use Rattle.fidl_equivalence.proofs.laws.alike_types_are_one.Goals as goal

pub returns : goal.returns
returns c = alike_types
