-- Small types that worked messages and refusals speak of (docs/wire.md, "Worked messages and
-- refusals").
use Rattle.std.specs.Prelude.{[], ◌∷◌, false, codes}
use Rattle.fidl_wire.specs.Term.{Term, no_fields, field, no_rows, row, uint8, uint32}
use Rattle.fidl_wire.specs.Term as ty
use Rattle.fidl_wire.specs.Figure.{Declarations, figure}

-- `struct {a uint8;}`
abbrev pub byte_struct : Term
byte_struct = ty.struct (field (codes "a") (ty.number uint8) no_fields)

-- `table {1: a uint8;}`
abbrev pub byte_table : Term
byte_table = ty.table (row 1 (codes "a") (ty.number uint8) no_rows)

-- `flexible union {1: n uint32;}`
abbrev pub number_union : Term
number_union = ty.union false false (row 1 (codes "n") (ty.number uint32) no_rows)

-- `type S = struct {s string:2;};`
abbrev pub declared_text : Declarations
declared_text =
    record {
      terms = ty.struct (field (codes "s") (ty.string false 2) no_fields) ∷ [];
      figures =
          figure 16 8 1 ∷ [];
    }

-- `type S = struct {b bool;};`
abbrev pub declared_bool : Declarations
declared_bool =
    record {
      terms = ty.struct (field (codes "b") ty.bool no_fields) ∷ [];
      figures = figure 1 1 1
          ∷ [];
    }
