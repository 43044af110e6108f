use Rattle.std.proofs.Common.{ap, ◌∙◌}
use Rattle.fidl_members.specs.Entries.{Owner}
use Rattle.fidl_members.specs.Scalars.{scalar_of, type_in}
use Rattle.fidl_members.proofs.Named.{if_none}
use Rattle.fidl_members.proofs.slots.ScalarSlot.find.Goals as goal

pub returns-in_default-clause-none : goal.returns-in_default-clause-none
returns-in_default-clause-none g c m h e = c.in_default.ensures.none m h

pub returns-clause-none : goal.returns-clause-none
returns-clause-none g c = if_none c.scalar.result c.scalar.ensures.none (λ none m h e. none (ap (λ (o : Owner). scalar_of (type_in o.0 o.1)) (c.in-Some.ensures.typed m h) ∙ e))
