-- The types of the members of a definition (docs/language.md, "Terms").
use Rattle.std.specs.Prelude.{List, [], ◌∷◌}
use Rattle.fidl_wire.specs.Term.{Term, Fields, no_fields, field, Rows, no_rows, row}
use Rattle.fidl_wire.specs.Term as ty

-- those of a struct, in order
abbrev pub field_types : Fields → List Term
field_types no_fields = []
field_types (field name t fs) = t ∷ field_types fs

-- those of a table or a union, in order
abbrev pub row_types : Rows → List Term
row_types no_rows = []
row_types (row ordinal name t rows) = t ∷ row_types rows

-- those of a definition; bits and enums have none
abbrev pub member_types : Term → List Term
member_types (ty.struct fs) = field_types fs
member_types (ty.table rows) = row_types rows
member_types (ty.union optional strict rows) = row_types rows
member_types _ = []
