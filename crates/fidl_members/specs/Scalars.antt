-- Bools and numbers, which are read by one load (docs/views.md, "Members looked up once").
use Rattle.std.specs.Prelude.{◌==◌, ℕ, List, Option, Some, if◌then◌else◌, None, slice_index}
use Rattle.std.specs.Option.{option_map}
use Rattle.std.specs.Int.{byte_len}
use Rattle.fidl_wire.specs.Value.{Value, bool, number}
use Rattle.fidl_wire.specs.Term.{Term, Kind, width, int8, int16, int32, int64, uint8, uint16, uint32}
use Rattle.fidl_wire.specs.Term.{uint64, resolve}
use Rattle.fidl_wire.specs.Term as ty
use Rattle.fidl_table_format.specs.declared.kind.EntryKind.{EntryKind}
use Rattle.fidl_table_format.specs.declared.kind.EntryKind.TheVariants.{Bool as Boolean, Int8, Int16}
use Rattle.fidl_table_format.specs.declared.kind.EntryKind.TheVariants.{Int32, Int64, Uint8, Uint16}
use Rattle.fidl_table_format.specs.declared.kind.EntryKind.TheVariants.{Uint32, Uint64}
use Rattle.fidl_table_format.specs.Number.{number_standing}
use Rattle.fidl_table_format.specs.Terms.{declarations_of, as_number}
use Rattle.fidl_table_format.specs.Uses.{is_number}
use Rattle.fidl_view.specs.Parts.{numbers_of}

-- the kind of a type of numbers
abbrev pub number_kind : Kind → EntryKind
number_kind int8 = Int8
number_kind int16 = Int16
number_kind int32 = Int32
number_kind int64 = Int64
number_kind uint8 = Uint8
number_kind uint16 = Uint16
number_kind uint32 = Uint32
number_kind uint64 = Uint64

-- the kind that the values of a type are read as: bools, or numbers; bits and enums are read as
-- their underlying numbers
abbrev pub scalar_of : Term → Option EntryKind
scalar_of ty.bool = Some Boolean
scalar_of t = option_map number_kind (numbers_of t)

-- the same of a type of this kind, which is no bits and no enum
abbrev pub scalar_as : EntryKind → Option EntryKind
scalar_as Boolean = Some Boolean
scalar_as k = if is_number k then Some k else None

-- how many bytes a value read as this kind has
abbrev pub scalar_size : EntryKind → ℕ
scalar_size Boolean = 1
scalar_size k = byte_len (width (as_number k))

-- the value that stands at a place, read as this kind
abbrev pub value_standing : EntryKind → List ℕ → (place : ℕ) → Value
value_standing Boolean bytes place = bool (slice_index bytes place == 1)
value_standing k bytes place = number (number_standing (as_number k) bytes place)

-- the type that an entry of a table declares
abbrev pub type_in : (table : List ℕ) → (entry : ℕ) → Term
type_in table entry = resolve (declarations_of table).terms (ty.named entry)
