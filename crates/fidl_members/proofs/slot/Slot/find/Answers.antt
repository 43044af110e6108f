use Rattle.fidl_wire.specs.Term.{find}
use Rattle.fidl_table_format.specs.Terms.{members_of}
use Rattle.fidl_members.proofs.Named.{no_entry}
use Rattle.fidl_members.proofs.slot.Slot.find.Goals as goal

pub returns-in_default-member-clause-none : goal.returns-in_default-member-clause-none
returns-in_default-member-clause-none c m h = no_entry (find (members_of c.args.table.now c.args.entry) c.args.ordinal) m c.in_default-member.ensures.none h.1
