-- What the entries of each kind use (docs/table.md, "Kinds").
use Rattle.std.specs.Prelude.{ℕ, ◌==◌, ◌||◌, nat_le, Bool, true, false, is_some}
use Rattle.fidl_table_format.specs.Kind.{number_type}
use Rattle.fidl_table_format.specs.declared.kind.EntryKind.{EntryKind}
use Rattle.fidl_table_format.specs.declared.kind.EntryKind.TheVariants.{Int16, Int32}
use Rattle.fidl_table_format.specs.declared.kind.EntryKind.TheVariants.{Int64, Uint8, Uint16, Uint32}
use Rattle.fidl_table_format.specs.declared.kind.EntryKind.TheVariants.{Uint64, Bits, Enum, String}
use Rattle.fidl_table_format.specs.declared.kind.EntryKind.TheVariants.{Vector, Array, Box, Struct}
use Rattle.fidl_table_format.specs.declared.kind.EntryKind.TheVariants.{Table, Union, Handle}

-- the numbers
abbrev pub is_number : EntryKind → Bool
is_number k = is_some (number_type k)

-- the numbers without a sign
abbrev pub is_unsigned : EntryKind → Bool
is_unsigned Uint8 = true
is_unsigned Uint16 = true
is_unsigned Uint32 = true
is_unsigned Uint64 = true
is_unsigned _ = false

-- the kinds that a table may have: all of them
abbrev pub is_known : EntryKind → Bool
is_known _ = true

-- the flags that an entry of the kind may have: 1 is optional, 2 strict
abbrev pub allows : (flags : ℕ) → EntryKind → Bool
allows flags Bits = flags == 0 || flags == 2
allows flags Enum = flags == 0 || flags == 2
allows flags String = flags == 0 || flags == 1
allows flags Vector = flags == 0 || flags == 1
allows flags Handle = flags == 0 || flags == 1
allows flags Union = nat_le flags 3
allows flags _ = flags == 0

-- `first` is an entry
abbrev pub uses_entry : EntryKind → Bool
uses_entry Vector = true
uses_entry Array = true
uses_entry Box = true
uses_entry _ = false

-- `first` is a row, the first of `count`
abbrev pub uses_rows : EntryKind → Bool
uses_rows Struct = true
uses_rows Table = true
uses_rows Union = true
uses_rows _ = false

-- the keys of its rows are ordinals
abbrev pub uses_ordinals : EntryKind → Bool
uses_ordinals Table = true
uses_ordinals Union = true
uses_ordinals _ = false

-- `first` is a value, the first of `count`
abbrev pub uses_values : EntryKind → Bool
uses_values Enum = true
uses_values _ = false

-- `first` is used by
abbrev pub uses_first : EntryKind → Bool
uses_first k = uses_entry k || uses_rows k || uses_values k

-- `count` is used by; an enum has values only where it is strict
abbrev pub uses_count : (strict : Bool) → EntryKind → Bool
uses_count strict Enum = strict
uses_count strict Array = true
uses_count strict k = uses_rows k

-- `bound` is used by; bits have a mask only where they are strict
abbrev pub uses_bound : (strict : Bool) → EntryKind → Bool
uses_bound strict Bits = strict
uses_bound strict String = true
uses_bound strict Vector = true
uses_bound strict _ = false

-- `subtype` is used by
abbrev pub uses_subtype : EntryKind → Bool
uses_subtype Bits = true
uses_subtype Enum = true
uses_subtype Handle = true
uses_subtype _ = false

-- `rights` is used by
abbrev pub uses_rights : EntryKind → Bool
uses_rights Handle = true
uses_rights _ = false

-- a name is used by
abbrev pub uses_name : EntryKind → Bool
uses_name Bits = true
uses_name Enum = true
uses_name Struct = true
uses_name Table = true
uses_name Union = true
uses_name _ = false

-- the size of bool and the numbers, in bytes, which is their alignment too
abbrev pub plain_size : EntryKind → ℕ
plain_size Int16 = 2
plain_size Uint16 = 2
plain_size Int32 = 4
plain_size Uint32 = 4
plain_size Int64 = 8
plain_size Uint64 = 8
plain_size _ = 1
