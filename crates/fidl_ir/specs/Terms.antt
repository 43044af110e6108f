-- The term that a type or a definition of the code stands for (docs/language.md, "Terms").
use Rattle.std.specs.Prelude.{List, [], ◌∷◌, map}
use Rattle.std.specs.Option.{option_map}
use Rattle.fidl_wire.specs.Term as ty
use Rattle.fidl_ir.specs.declared.term.NumberKind.{NumberKind}
use Rattle.fidl_ir.specs.declared.term.NumberKind.TheVariants as Kinds
use Rattle.fidl_ir.specs.declared.term.«Type».{«Type»}
use Rattle.fidl_ir.specs.declared.term.«Type».TheVariants as Types
use Rattle.fidl_ir.specs.declared.term.Field.{Field}
use Rattle.fidl_ir.specs.declared.term.Row.{Row}
use Rattle.fidl_ir.specs.declared.term.Definition.{Definition}
use Rattle.fidl_ir.specs.declared.term.Definition.TheVariants as Definitions

-- a type of whole numbers
abbrev pub number_kind_view : NumberKind → ty.Kind
number_kind_view Kinds.Int8 = ty.int8
number_kind_view Kinds.Int16 = ty.int16
number_kind_view Kinds.Int32 = ty.int32
number_kind_view Kinds.Int64 = ty.int64
number_kind_view Kinds.Uint8 = ty.uint8
number_kind_view Kinds.Uint16 = ty.uint16
number_kind_view Kinds.Uint32 = ty.uint32
number_kind_view Kinds.Uint64 = ty.uint64

-- a type: a box is of the definition of its number
abbrev pub term_view : «Type» → ty.Term
term_view Types.Bool = ty.bool
term_view (Types.Number kind) = ty.number (number_kind_view kind)
term_view (Types.Handle optional subtype rights) = ty.handle optional subtype rights
term_view (Types.Text optional bound) = ty.string optional bound
term_view (Types.Vector' optional bound p element) = ty.vector optional bound (term_view element)
term_view (Types.Array' p element count) = ty.array (term_view element) count
term_view (Types.Box number) = ty.box (ty.named number)
term_view (Types.Named number) = ty.named number

-- the members of a struct, in order
abbrev pub fields_view : List Field → ty.Fields
fields_view [] = ty.no_fields
fields_view (f ∷ fs) = ty.field f.name.items (term_view f.of) (fields_view fs)

-- the members of a table or a union, in order
abbrev pub rows_view : List Row → ty.Rows
rows_view [] = ty.no_rows
rows_view (r ∷ rs) = ty.row r.ordinal r.name.items (term_view r.of) (rows_view rs)

-- a definition
abbrev pub definition_view : Definition → ty.Term
definition_view (Definitions.Bits kind mask) = ty.bits (number_kind_view kind) mask
definition_view (Definitions.Enum kind values) =
    ty.enum (number_kind_view kind) (option_map (λ vs. vs.items) values)
definition_view (Definitions.Struct fields) = ty.struct (fields_view fields.items)
definition_view (Definitions.Table rows) = ty.table (rows_view rows.items)
definition_view (Definitions.Union optional strict rows) =
    ty.union optional strict (rows_view rows.items)

-- definitions, by their numbers from 0 on
abbrev pub definitions_view : List Definition → List ty.Term
definitions_view = map definition_view
