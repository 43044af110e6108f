-- A fact of all kinds, by one of each.
use Rattle.fidl_table_format.specs.declared.kind.EntryKind.{EntryKind}
use Rattle.fidl_table_format.specs.declared.kind.EntryKind.TheVariants.{Bool as Boolean, Int8, Int16, Int32, Int64, Uint8, Uint16, Uint32, Uint64, Bits, Enum, String, Vector, Array, Box, Struct, Table, Union, Handle}

-- a fact of each kind
pub by_sort : (P : EntryKind → Type 0) → P Boolean → P Array → P Struct → P Bits → P Enum
    → P Int8 → P Int16 → P Int32 → P Int64 → P Uint8 → P Uint16 → P Uint32 → P Uint64 → P String → P Handle → P Vector → P Box → P Table → P Union → (k : EntryKind) → P k
by_sort P b a s f e i8 i16 i32 i64 u8 u16 u32 u64 st ha ve bo ta un Boolean = b
by_sort P b a s f e i8 i16 i32 i64 u8 u16 u32 u64 st ha ve bo ta un Array = a
by_sort P b a s f e i8 i16 i32 i64 u8 u16 u32 u64 st ha ve bo ta un Struct = s
by_sort P b a s f e i8 i16 i32 i64 u8 u16 u32 u64 st ha ve bo ta un Int8 = i8
by_sort P b a s f e i8 i16 i32 i64 u8 u16 u32 u64 st ha ve bo ta un Int16 = i16
by_sort P b a s f e i8 i16 i32 i64 u8 u16 u32 u64 st ha ve bo ta un Int32 = i32
by_sort P b a s f e i8 i16 i32 i64 u8 u16 u32 u64 st ha ve bo ta un Int64 = i64
by_sort P b a s f e i8 i16 i32 i64 u8 u16 u32 u64 st ha ve bo ta un Uint8 = u8
by_sort P b a s f e i8 i16 i32 i64 u8 u16 u32 u64 st ha ve bo ta un Uint16 = u16
by_sort P b a s f e i8 i16 i32 i64 u8 u16 u32 u64 st ha ve bo ta un Uint32 = u32
by_sort P b a s f e i8 i16 i32 i64 u8 u16 u32 u64 st ha ve bo ta un Uint64 = u64
by_sort P b a s f e i8 i16 i32 i64 u8 u16 u32 u64 st ha ve bo ta un Bits = f
by_sort P b a s f e i8 i16 i32 i64 u8 u16 u32 u64 st ha ve bo ta un Enum = e
by_sort P b a s f e i8 i16 i32 i64 u8 u16 u32 u64 st ha ve bo ta un String = st
by_sort P b a s f e i8 i16 i32 i64 u8 u16 u32 u64 st ha ve bo ta un Vector = ve
by_sort P b a s f e i8 i16 i32 i64 u8 u16 u32 u64 st ha ve bo ta un Box = bo
by_sort P b a s f e i8 i16 i32 i64 u8 u16 u32 u64 st ha ve bo ta un Table = ta
by_sort P b a s f e i8 i16 i32 i64 u8 u16 u32 u64 st ha ve bo ta un Union = un
by_sort P b a s f e i8 i16 i32 i64 u8 u16 u32 u64 st ha ve bo ta un Handle = ha
