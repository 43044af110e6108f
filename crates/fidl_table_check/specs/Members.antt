-- When a row of a table is a member of a layout, as the code compares them.
use Rattle.std.specs.Prelude.{◌≡◌, ℕ, ◌+◌, ◌<◌, List}
use Rattle.fidl_wire.specs.Term.{Term}
use Rattle.fidl_wire.specs.Term as ty
use Rattle.fidl_equivalence.specs.Alike.{IsNumbered}
use Rattle.fidl_ir.specs.declared.term.Field.{Field}
use Rattle.fidl_ir.specs.declared.term.Row.{Row}
use Rattle.fidl_ir.specs.Terms.{term_view}
use Rattle.fidl_table_format.specs.declared.record.Row.{Row as RowRecord}
use Rattle.fidl_table_format.specs.declared.record.Entry.{Entry}
use Rattle.fidl_table_format.specs.Section.{header_of, entry_at, row_at, name_at}

-- the entry is one of the table's
pub record IsEntryOf (bytes : List ℕ) (e : Entry) : Type 0 where
  pub index : ℕ
  pub within : index < (header_of bytes).entries
  pub is : e ≡ entry_at bytes index

-- a row has this name, and the entry whose number this type has in the list
pub record IsMember (types : List Term) (bytes : List ℕ) (r : RowRecord) (name : List ℕ) (t : Term)
    : Type 0 where
  pub named : name_at bytes (header_of bytes) r.name_place r.name_length ≡ name
  pub numbered : IsNumbered types t (ty.named r.entry)

-- the row of this place in an entry is this member of a struct
abbrev pub IsField : List Term → List ℕ → Entry → (k : ℕ) → Field → Type 0
IsField types bytes e k f =
    IsMember types bytes (row_at bytes (header_of bytes) (e.first + k)) f.name.items
    (term_view f.of)

-- the row of this place in an entry is this member of a table or union
pub record IsRow (types : List Term) (bytes : List ℕ) (e : Entry) (k : ℕ) (r : Row) : Type 0 where
  pub key : (row_at bytes (header_of bytes) (e.first + k)).key ≡ r.ordinal
  pub member : IsMember types bytes (row_at bytes (header_of bytes) (e.first + k)) r.name.items
      (term_view r.of)
