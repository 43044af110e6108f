use Rattle.std.proofs.Common.{subst, sym}
use Rattle.fidl_table_format.specs.declared.kind.EntryKind.TheVariants.{Struct}
use Rattle.fidl_table_format.specs.Section.{entry_at}
use Rattle.fidl_table_format.specs.Entry.{IsOf}
use Rattle.fidl_members.specs.Entries.{Owner}
use Rattle.fidl_members.proofs.Named.{if_none}
use Rattle.fidl_members.proofs.slots.StructSlot.find.Goals as goal

pub returns-in_default-clause-none : goal.returns-in_default-clause-none
returns-in_default-clause-none c m h e = c.in_default.ensures.none m h

pub returns-clause-none : goal.returns-clause-none
returns-clause-none c = if_none c.members.result c.members.ensures.none (λ none m h e. none (subst (λ (o : Owner). IsOf Struct (entry_at o.0 o.1)) (sym (c.in-Some.ensures.typed m h)) e))
