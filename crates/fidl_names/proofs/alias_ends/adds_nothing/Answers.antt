use Rattle.std.proofs.Common.{refl}
use Rattle.fidl_names.proofs.alias_ends.adds_nothing.Goals as goal

pub returns-in-None : goal.returns-in-None
returns-in-None c = λ f a h. absurd (c.in-None.ensures.none refl f a h)
