-- The kinds of entries (docs/table.md, "Kinds").
use Rattle.std.specs.Prelude.{ℕ, List, [], ◌∷◌, Option, Some, None, get_or}
use Rattle.fidl_wire.specs.Term as ty
use Rattle.fidl_table_format.specs.declared.kind.EntryKind.{EntryKind}
use Rattle.fidl_table_format.specs.declared.kind.EntryKind.TheVariants.{Bool, Int8, Int16, Int32, Int64}
use Rattle.fidl_table_format.specs.declared.kind.EntryKind.TheVariants.{Uint8, Uint16, Uint32, Uint64}
use Rattle.fidl_table_format.specs.declared.kind.EntryKind.TheVariants.{Bits, Enum, String, Vector}
use Rattle.fidl_table_format.specs.declared.kind.EntryKind.TheVariants.{Array, Box, Struct, Table, Union}
use Rattle.fidl_table_format.specs.declared.kind.EntryKind.TheVariants.{Handle}

-- the kinds, by their numbers from 1 on
abbrev pub kinds : List (Option EntryKind)
kinds =
    None ∷ Some Bool ∷ Some Int8 ∷ Some Int16 ∷ Some Int32 ∷ Some Int64 ∷ Some Uint8 ∷ Some Uint16
    ∷ Some Uint32 ∷ Some Uint64
    ∷ Some Bits ∷ Some Enum ∷ Some String ∷ Some Vector ∷ Some Array ∷ Some Box ∷ Some Struct
    ∷ Some Table ∷ Some Union ∷ Some Handle ∷ []

-- the kind of a number
abbrev pub kind_of : ℕ → Option EntryKind
kind_of n = get_or kinds n None

-- the number type that a kind of numbers stands for
abbrev pub number_type : EntryKind → Option ty.Kind
number_type Int8 = Some ty.int8
number_type Int16 = Some ty.int16
number_type Int32 = Some ty.int32
number_type Int64 = Some ty.int64
number_type Uint8 = Some ty.uint8
number_type Uint16 = Some ty.uint16
number_type Uint32 = Some ty.uint32
number_type Uint64 = Some ty.uint64
number_type _ = None
