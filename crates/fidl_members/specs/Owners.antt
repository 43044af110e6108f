-- Whose members a column or a slot reads (docs/views.md, "Members looked up once").
use Rattle.std.specs.Prelude.{ℕ}
use Rattle.fidl_table_format.specs.declared.record.Entry.{Entry}
use Rattle.fidl_table_format.specs.Section.{entry_at}
use Rattle.fidl_view.specs.declared.view.View.{View}
use Rattle.fidl_view.specs.declared.structs.Members.{Members}
use Rattle.fidl_view.specs.Views.{part_of, message_held, entry_held}
use Rattle.fidl_members.specs.declared.column.Column.{Column}
use Rattle.fidl_members.specs.declared.slot.Slot.{Slot}
use Rattle.fidl_wire.specs.Term.{Term}
use Rattle.fidl_members.specs.Entries.{Owner, owner}
use Rattle.fidl_members.specs.Scalars.{type_in}

-- the struct whose members these are
abbrev pub owner_held : Members → Owner
owner_held members = owner (message_held members).table (entry_held members)

-- the entry of the part that a view shows
abbrev pub owner_shown : View → Owner
owner_shown view = owner (part_of view).message.table (part_of view).index

-- the struct whose member a column reads, the member's place in its declaration, and the entry of
-- the member's type
abbrev pub owner_of : Column → Owner
owner_of c = owner c.table.now c.of

abbrev pub place_in : Column → ℕ
place_in c = c.at

abbrev pub type_of_column : Column → Owner
type_of_column c = owner c.table.now c.row.entry

-- the table whose member a slot reads, the member's ordinal, and the entry of the member's type
abbrev pub owner_of_slot : Slot → Owner
owner_of_slot s = owner s.table.now s.of

abbrev pub ordinal_of : Slot → ℕ
ordinal_of s = s.ordinal

abbrev pub type_of_slot : Slot → Owner
type_of_slot s = owner s.table.now s.entry

-- the entry of the type of a column's members, as the table states it
abbrev pub entry_of : Column → Entry
entry_of c = entry_at c.table.now c.row.entry

-- the same of a slot
abbrev pub entry_of_slot : Slot → Entry
entry_of_slot s = entry_at s.table.now s.entry

-- the type of a column's members, and of a slot's
abbrev pub column_type : Column → Term
column_type c = type_in c.table.now c.row.entry

abbrev pub slot_type : Slot → Term
slot_type s = type_in s.table.now s.entry
