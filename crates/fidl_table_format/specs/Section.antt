-- The sections of a table and their records (docs/table.md, "Sections" and "Records").
use Rattle.std.specs.Prelude.{ℕ, ◌+◌, ◌*◌, ◌==◌, Bool, if◌then◌else◌, List, [], ◌∷◌, get_or}
use Rattle.std.specs.Prelude.{slice_index, slice_range}
use Rattle.std.specs.Int.{w16, w32, w64}
use Rattle.fidl_table_format.specs.declared.record.Header.{Header}
use Rattle.fidl_table_format.specs.declared.record.Entry.{Entry}
use Rattle.fidl_table_format.specs.declared.record.Row.{Row}
use Rattle.fidl_table_format.specs.declared.record.ValueRange.{ValueRange}
use Rattle.fidl_table_format.specs.declared.record.Root.{Root}
use Rattle.fidl_table_format.specs.declared.record.ProtocolRecord.{ProtocolRecord}
use Rattle.fidl_table_format.specs.declared.record.MethodRecord.{MethodRecord}
use Rattle.fidl_wire.specs.Field.{number_at}

-- the fields of the header, 40 bytes
abbrev pub header_of : List ℕ → Header
header_of bytes = record {
  magic = number_at w32 bytes 0;
  version = number_at w16 bytes 4;
  reserved = number_at w16 bytes 6;
  entries = number_at w32 bytes 8;
  rows = number_at w32 bytes 12;
  values = number_at w32 bytes 16;
  roots = number_at w32 bytes 20;
  protocols = number_at w32 bytes 24;
  methods = number_at w32 bytes 28;
  names = number_at w32 bytes 32;
  reserved_end = number_at w32 bytes 36;
}

-- where the records stand: each section right behind the one before
abbrev pub entry_place : (index : ℕ) → ℕ
entry_place index = 40 + 40 * index

abbrev pub row_place : Header → (index : ℕ) → ℕ
row_place h index = 40 + 40 * h.entries + 16 * index

-- the values of version 2 are ranges, which state both their ends
abbrev pub has_ranges : Header → Bool
has_ranges h = h.version == 2

-- how many bytes the record of a value has, by the version: 16 in version 2, else 8
abbrev pub value_size : Header → ℕ
value_size h = get_or (8 ∷ 8 ∷ 16 ∷ []) h.version 8

abbrev pub value_place : Header → (index : ℕ) → ℕ
value_place h index = row_place h h.rows + value_size h * index

abbrev pub root_place : Header → (index : ℕ) → ℕ
root_place h index = value_place h h.values + 12 * index

abbrev pub protocol_place : Header → (index : ℕ) → ℕ
protocol_place h index = root_place h h.roots + 16 * index

abbrev pub method_place : Header → (index : ℕ) → ℕ
method_place h index = protocol_place h h.protocols + 32 * index

abbrev pub names_place : Header → ℕ
names_place h = method_place h h.methods

-- how long a table with this header is
abbrev pub table_length : Header → ℕ
table_length h = names_place h + h.names

-- the fields of an entry, 40 bytes
abbrev pub entry_at : List ℕ → (index : ℕ) → Entry
entry_at bytes index =
    let place = entry_place index in
    record {
      kind = slice_index bytes place;
      flags = slice_index bytes (place + 1);
      alignment = slice_index bytes (place + 2);
      nest = slice_index bytes (place + 3);
      size = number_at w32 bytes (place + 4);
      first = number_at w32 bytes (place + 8);
      count = number_at w32 bytes (place + 12);
      bound = number_at w64 bytes (place + 16);
      subtype = number_at w32 bytes (place + 24);
      rights = number_at w32 bytes (place + 28);
      name_place = number_at w32 bytes (place + 32);
      name_length = number_at w32 bytes (place + 36);
    }

-- the fields of a row, 16 bytes
abbrev pub row_at : List ℕ → Header → (index : ℕ) → Row
row_at bytes h index =
    let place = row_place h index in
    record {
      key = number_at w32 bytes place;
      entry = number_at w32 bytes (place + 4);
      name_place =
          number_at w32 bytes (place + 8);
      name_length = number_at w32 bytes (place + 12);
    }

-- the ends of the range that a value's record states, eight bytes each, where negative numbers are
-- sign-extended to 64 bits; the record of version 1 is one number, which is both ends
abbrev pub range_at : List ℕ → Header → (index : ℕ) → ValueRange
range_at bytes h index =
    let place = value_place h index in
    record {
      lowest = number_at w64 bytes place;
      highest = number_at w64 bytes (if has_ranges h then place + 8 else place);
    }

-- the fields of a root, 12 bytes
abbrev pub root_at : List ℕ → Header → (index : ℕ) → Root
root_at bytes h index =
    let place = root_place h index in
    record {
      name_place = number_at w32 bytes place;
      name_length =
          number_at w32 bytes (place + 4);
      entry = number_at w32 bytes (place + 8);
    }

-- the fields of a protocol, 16 bytes
abbrev pub protocol_at : List ℕ → Header → (index : ℕ) → ProtocolRecord
protocol_at bytes h index =
    let place = protocol_place h index in
    record {
      name_place = number_at w32 bytes place;
      name_length =
          number_at w32 bytes (place + 4);
      openness = number_at w32 bytes (place + 8);
      methods = number_at w32 bytes (place + 12);
    }

-- the fields of a method, 32 bytes
abbrev pub method_at : List ℕ → Header → (index : ℕ) → MethodRecord
method_at bytes h index =
    let place = method_place h index in
    record {
      ordinal = number_at w64 bytes place;
      name_place = number_at w32 bytes (place + 8);
      name_length = number_at w32 bytes (place + 12);
      flags = number_at w32 bytes (place + 16);
      request = number_at w32 bytes (place + 20);
      response = number_at w32 bytes (place + 24);
      reserved = number_at w32 bytes (place + 28);
    }

-- the bytes of a name, by its place in the names
abbrev pub name_at : List ℕ → Header → (place name_length : ℕ) → List ℕ
name_at bytes h place name_length =
    slice_range bytes (names_place h + place) (names_place h + place + name_length)
