-- The columns, structs and tables of the worked facts.
use Rattle.std.specs.Prelude.{ℕ, List, [], ◌∷◌, ◌++◌, replicate, codes}
use Rattle.fidl_table_format.specs.declared.record.Entry.{Entry}
use Rattle.fidl_table_format.specs.Samples.{box_bytes, entry_bytes}
use Rattle.fidl_decode_model.specs.declared.fault.DecodeFault.TheVariants.{BadBool}
use Rattle.fidl_decode_model.specs.State.{Position}
use Rattle.fidl_decode_columns.specs.declared.column.Column.{Column}
use Rattle.fidl_decode_columns.specs.declared.column.Wrong.{Wrong}
use Rattle.fidl_decode_columns.specs.declared.structs.Structs.{Structs}
use Rattle.fidl_decode_columns.specs.declared.window.Window.{Window}

-- a member so far behind the start of structs of eight bytes, the first of which begins at a place
abbrev pub column_at : (base offset : ℕ) → Column
column_at base offset = record { base = base; size = 8; offset = offset }

-- bits that were seen in eight bytes from a place on, and in the bytes as far in so many structs
abbrev pub window_of : (start seen count : ℕ) → Window
window_of start seen count = record { start = start; seen = seen; count = count }

-- the struct with this number is wrong, by a bool at a place
abbrev pub bool_wrong : (element at : ℕ) → Wrong
bool_wrong element at = record { element = element; fault = BadBool at }

-- the entry of a struct without members, of this size
abbrev pub no_members : (size : ℕ) → Entry
no_members size = record {
  kind = 16;
  flags = 0;
  alignment = 1;
  nest = 1;
  size = size;
  first = 0;
  count = 0;
  bound = 0;
  subtype = 0;
  rights = 0;
  name_place = 0;
  name_length = 0;
}

-- so many of them from a place on, so deep
abbrev pub empty_structs : (size count base depth : ℕ) → Structs
empty_structs size count base depth = record {
  entry = no_members size;
  count = count;
  base = base;
  depth = depth;
  in_envelope = 0;
}

-- nothing out of line is read
abbrev pub at_start : Position
at_start = record { next = 0; handle = 0; objects = []; records = [] }

-- the bytes of a row without a name, of this entry
abbrev pub row_of : (entry : ℕ) → List ℕ
row_of entry = 0 ∷ 0 ∷ 0 ∷ 0 ∷ entry ∷ replicate 11 0

-- a table of a box and a uint8, and of a row of each
abbrev pub box_and_number : List ℕ
box_and_number = codes "FCT2" ++ 1 ∷ 0 ∷ 0 ∷ 0 ∷ 2 ∷ 0 ∷ 0 ∷ 0 ∷ 2 ∷ replicate 27 0
    ++ box_bytes 1 ++ entry_bytes 6 0 1 0 0 0 ++ row_of 0 ++ row_of 1
