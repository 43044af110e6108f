-- An entry of a table (docs/table.md), and the entry that a type is named by.
use Rattle.std.specs.Prelude.{◌≡◌, ◌≢◌, ◌⊎◌, ◌+◌, ◌<◌, ℕ, List, Option, Some, None}
use Rattle.fidl_wire.specs.Term.{Term, named, find}
use Rattle.fidl_table_format.specs.declared.kind.EntryKind.TheVariants.{Array, Vector, Box, Struct}
use Rattle.fidl_table_format.specs.declared.kind.EntryKind.TheVariants.{Table}
use Rattle.fidl_table_format.specs.declared.record.Entry.{Entry}
use Rattle.fidl_table_format.specs.Entry.{IsOf}
use Rattle.fidl_table_format.specs.Terms.{members_of}
use Rattle.fidl_table_format.specs.Section.{header_of, entry_at, row_at, name_at}

-- an entry of a table
abbrev pub Owner : Type 0
Owner = List ℕ × ℕ

-- these two as one
abbrev pub owner : (table : List ℕ) → (entry : ℕ) → Owner
owner table entry = (table, entry)

-- the entry that a type is named by
abbrev pub entry_named : Option Term → Option ℕ
entry_named (Some (named entry)) = Some entry
entry_named _ = None

-- the name of a row of a table
abbrev pub row_name : (table : List ℕ) → (row : ℕ) → List ℕ
row_name table row = let r = row_at table (header_of table) row in
    name_at table (header_of table) r.name_place r.name_length

-- the entry of the type of the row at this place among those of an entry
abbrev pub entry_at_row : (table : List ℕ) → (entry at : ℕ) → ℕ
entry_at_row table entry at =
    (row_at table (header_of table) ((entry_at table entry).first + at)).entry

-- the structs of an entry have a member at this place of their declaration
abbrev pub HasField : (table : List ℕ) → (entry at : ℕ) → Type 0
HasField table entry at = let e = entry_at table entry in IsOf Struct e × (at < e.count)

-- the tables of an entry have a member of this ordinal, whose type has an entry
abbrev pub HasMember : (table : List ℕ) → (entry ordinal member : ℕ) → Type 0
HasMember table entry ordinal member = IsOf Table (entry_at table entry)
    × (entry_named (find (members_of table entry) ordinal) ≡ Some member)

-- values of the entry have elements, or a struct, of the entry that it names first
abbrev pub HasContent : Entry → Type 0
HasContent e = IsOf Array e ⊎ IsOf Vector e ⊎ IsOf Box e

-- the row at this place among those of an entry has this name
abbrev pub IsRowOf : (table : List ℕ) → (entry : ℕ) → (name : List ℕ) → (at : ℕ) → Type 0
IsRowOf table entry name at = let e = entry_at table entry in
    (at < e.count) × (row_name table (e.first + at) ≡ name)

-- it is the first of them
abbrev pub IsFirstRowOf : (table : List ℕ) → (entry : ℕ) → (name : List ℕ) → (at : ℕ) → Type 0
IsFirstRowOf table entry name at = IsRowOf table entry name at
    × ((k : ℕ) → k < at → row_name table ((entry_at table entry).first + k) ≢ name)

-- none of them has
abbrev pub HasNoRow : (table : List ℕ) → (entry : ℕ) → (name : List ℕ) → Type 0
HasNoRow table entry name = let e = entry_at table entry in
    (at : ℕ) → at < e.count → row_name table (e.first + at) ≢ name
