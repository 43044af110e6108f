use Rattle.std.proofs.Common.{refl}
use Rattle.fidl_equivalence.specs.Alike as like
use Rattle.fidl_equivalence.proofs.worked.one_level.Goals as goal

pub returns-clause-numbers : goal.returns-clause-numbers
returns-clause-numbers c = like.number refl

pub returns-clause-bounds : goal.returns-clause-bounds
returns-clause-bounds c = like.vector refl refl refl
