-- What the printer is given of tables and unions, and what it writes of their members.
use Rattle.std.specs.Prelude.{ℕ, List, [], ◌++◌, Bool, true, Option, Some, None, Result, codes}
use Rattle.fidl_wire.specs.Value.{Value, Member, known}
use Rattle.fidl_wire.specs.Term.{Rows, resolve, find}
use Rattle.fidl_wire.specs.Term as ty
use Rattle.fidl_wire.specs.Figure.{Declarations}
use Rattle.fidl_wire.specs.Text.{text_of, comma_if, member_text}
use Rattle.fidl_table_format.specs.declared.record.Row.{Row}
use Rattle.fidl_table_format.specs.Section.{header_of, name_at}
use Rattle.fidl_table_format.specs.Terms.{declarations_of, members_of}
use Rattle.fidl_view.specs.Parts.{held_of}
use Rattle.fidl_view.specs.declared.view.View.{View}
use Rattle.fidl_notation.specs.declared.printer.Slot.{Slot}
use Rattle.fidl_streams.specs.Written.{Taken, Writes}
use Rattle.fidl_view.specs.Within.{IsValueOf, IsMember}

-- a value of a row's entry, behind the row's name
abbrev pub named_text : (table : List ℕ) → Row → Value → List ℕ
named_text table row v =
    let ds = declarations_of table in
    name_at table (header_of table) row.name_place row.name_length ++ codes ": "
    ++ text_of ds (resolve ds.terms (ty.named row.entry)) v

-- the value of the row's entry that the view shows is written behind the row's name
abbrev pub PrintsNamed : {T E : Type 0} → (table : List ℕ) → Row → View
    → (old new : Taken) → Result T E → Type 0
PrintsNamed table row view old new result = (v : Value) → IsValueOf table row.entry view v
    → Writes old new (named_text table row v) result

-- the text of the known member whose value the view shows is written
abbrev pub PrintsMember : {T E : Type 0} → (table : List ℕ) → Slot → View
    → (old new : Taken) → Result T E → Type 0
PrintsMember table slot view old new result = (v : Value) → IsMember table slot.index slot.ordinal view v
    → Writes old new (member_text (declarations_of table) (members_of table slot.index)
    slot.ordinal (known v)) result

-- the text of what a table holds at an ordinal, which is nothing or a member, behind a comma where
-- another stands before it
abbrev pub slot_text : Declarations → Rows → (later : Bool) → (ordinal : ℕ) → Option Member → List ℕ
slot_text ds rows later ordinal None = []
slot_text ds rows later ordinal (Some x) = comma_if later ++ member_text ds rows ordinal x

-- whether a member stands before the next ordinal
abbrev pub later_behind : (later : Bool) → Option Member → Bool
later_behind later None = later
later_behind later (Some x) = true

-- the text of what the table that the view shows holds at the slot's ordinal is written
abbrev pub PrintsSlot : {T E : Type 0} → (table : List ℕ) → Slot → View → (later : Bool)
    → (old new : Taken) → Result T E → Type 0
PrintsSlot table slot view later old new result = (v : Value) → IsValueOf table slot.index view v
    → Writes old new (slot_text (declarations_of table) (members_of table slot.index) later
    slot.ordinal (held_of v slot.ordinal)) result
