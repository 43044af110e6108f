use Rattle.std.proofs.Common.{ap, sym, ◌∙◌}
use Rattle.fidl_wire.specs.Term.{find}
use Rattle.fidl_table_format.specs.Terms.{members_of}
use Rattle.fidl_members.specs.Entries.{Owner}
use Rattle.fidl_members.proofs.Named.{is_named}
use Rattle.fidl_members.proofs.slot.Slot.part.Goals as goal

pub known_member-requires-clause-known : goal.known_member-requires-clause-known
known_member-requires-clause-known c =
    let s = c.args.self.now in
    ap (λ (o : Owner). find (members_of o.0 o.1) s.ordinal) (sym c.requires.same) ∙ is_named (find (members_of s.table.now s.of) s.ordinal) s.entry s.known
