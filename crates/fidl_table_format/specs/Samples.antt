-- The entries and tables of the worked facts.
use Rattle.std.specs.Prelude.{ℕ, List, [], ◌∷◌, ◌++◌, replicate, codes}
use Rattle.fidl_table_format.specs.declared.record.Entry.{Entry}
use Rattle.fidl_table_format.specs.declared.record.MethodRecord.{MethodRecord}

-- an entry of one byte without a name and rights
abbrev pub an_entry : (kind flags first count bound subtype : ℕ) → Entry
an_entry kind flags first count bound subtype = record {
  kind = kind;
  flags = flags;
  alignment = 1;
  nest = 0;
  size = 1;
  first = first;
  count = count;
  bound = bound;
  subtype = subtype;
  rights = 0;
  name_place = 0;
  name_length = 0;
}

-- the header of a table of this version with only entries and values
abbrev pub header_of_version : (version entries values : ℕ) → List ℕ
header_of_version version entries values =
    codes "FCT2" ++ version ∷ 0 ∷ 0 ∷ 0 ∷ entries ∷ replicate 7 0 ++ values ∷ replicate 23 0

-- the header of such a table of version 1
abbrev pub header_bytes : (entries values : ℕ) → List ℕ
header_bytes = header_of_version 1

-- the bytes of an entry of this size and alignment, without a bound, rights and a name
abbrev pub entry_bytes : (kind flags size first count subtype : ℕ) → List ℕ
entry_bytes kind flags size first count subtype =
    kind ∷ flags ∷ size ∷ 0 ∷ size ∷ 0 ∷ 0 ∷ 0 ∷ first ∷ 0 ∷ 0 ∷ 0 ∷ count ∷ replicate 11 0
    ++ subtype ∷ replicate 15 0

-- the bytes of an enum of this size, with its values from `first` on
abbrev pub enum_bytes : (flags size first count subtype : ℕ) → List ℕ
enum_bytes = entry_bytes 11

-- the bytes of a value, and of the value of which each bit is set
abbrev pub value_bytes : ℕ → List ℕ
value_bytes n = n ∷ replicate 7 0

abbrev pub all_ones : List ℕ
all_ones = replicate 8 255

-- the bytes of a range of version 2
abbrev pub range_bytes : (lowest highest : ℕ) → List ℕ
range_bytes lowest highest = value_bytes lowest ++ value_bytes highest

-- a table of version 2 of one strict enum with two ranges
abbrev pub two_ranges : (size subtype : ℕ) → List ℕ → List ℕ → List ℕ
two_ranges size subtype a b = header_of_version 2 1 2 ++ enum_bytes 2 size 0 2 subtype ++ a ++ b

-- a table of a strict enum of uint32 with the name "e/E", which is a root, and with these records
-- of values
abbrev pub root_of_enum : (version records : ℕ) → List ℕ → List ℕ
root_of_enum version records values =
    codes "FCT2" ++ version ∷ 0 ∷ 0 ∷ 0 ∷ 1 ∷ replicate 7 0 ++ records ∷ 0 ∷ 0 ∷ 0 ∷ 1
    ∷ replicate 11 0 ++ 6 ∷ replicate 7 0
    ++ 11 ∷ 2 ∷ 4 ∷ 0 ∷ 4 ∷ replicate 7 0 ++ records ∷ replicate 11 0 ++ 8 ∷ replicate 11 0
    ++ 3 ∷ 0 ∷ 0 ∷ 0 ∷ values
    ++ 3 ∷ 0 ∷ 0 ∷ 0 ∷ 3 ∷ replicate 7 0 ++ codes "e/Ee/E"

-- a table of version 2 of the enum with the values 1 and 2, and those from `lowest` to 4
abbrev pub one_two_and_four : (version lowest : ℕ) → List ℕ
one_two_and_four version lowest = root_of_enum version 2 (range_bytes 1 2 ++ range_bytes lowest 4)

-- a table of version 1 of the enum with the values 1, 2 and 4
abbrev pub one_two_four : (version : ℕ) → List ℕ
one_two_four version =
    root_of_enum version 3 (value_bytes 1 ++ value_bytes 2 ++ value_bytes 4)

-- a table of one strict enum with two values
abbrev pub two_values : (size subtype : ℕ) → List ℕ → List ℕ → List ℕ
two_values size subtype a b = header_bytes 1 2 ++ enum_bytes 2 size 0 2 subtype ++ a ++ b

-- a table of a strict enum of int8 with the values -1 and 1, a flexible one, and a strict one with
-- the value 7
abbrev pub three_enums : (first values : ℕ) → List ℕ
three_enums first values =
    header_bytes 3 values ++ enum_bytes 2 1 0 2 2 ++ enum_bytes 0 1 first 0 6
    ++ enum_bytes 2 1 2 1 6 ++ all_ones ++ value_bytes 1 ++ value_bytes 7

-- the bytes of a vector of at most `bound` elements of the entry `first`
abbrev pub vector_bytes : (flags first bound : ℕ) → List ℕ
vector_bytes flags first bound = 13 ∷ flags ∷ 8 ∷ 0 ∷ 16 ∷ 0 ∷ 0 ∷ 0 ∷ first ∷ replicate 7 0
    ++ bound ∷ replicate 23 0

-- the bytes of a box of the entry `first`
abbrev pub box_bytes : (first : ℕ) → List ℕ
box_bytes first = 15 ∷ 0 ∷ 8 ∷ 0 ∷ 8 ∷ 0 ∷ 0 ∷ 0 ∷ first ∷ replicate 31 0

-- a table of uint8, and a vector of at most five elements of the entry `first`
abbrev pub number_and_vector : (first : ℕ) → List ℕ
number_and_vector first = header_bytes 2 0 ++ entry_bytes 6 0 1 0 0 0 ++ vector_bytes 0 first 5

-- a table of uint8, and a box of the entry `first`
abbrev pub number_and_box : (first : ℕ) → List ℕ
number_and_box first = header_bytes 2 0 ++ entry_bytes 6 0 1 0 0 0 ++ box_bytes first

-- a table of a struct whose one member, of this key, has the entry 1, which is a box of the entry
-- `first`; the member's name is "n"
abbrev pub struct_and_box : (key first : ℕ) → List ℕ
struct_and_box key first =
    codes "FCT2" ++ 1 ∷ 0 ∷ 0 ∷ 0 ∷ 2 ∷ 0 ∷ 0 ∷ 0 ∷ 1 ∷ replicate 19 0 ++ 1 ∷ replicate 7 0
    ++ 16 ∷ 0 ∷ 8 ∷ 1 ∷ 8 ∷ replicate 7 0 ++ 1 ∷ replicate 27 0
    ++ box_bytes first
    ++ key ∷ 0 ∷ 0 ∷ 0 ∷ 1 ∷ replicate 7 0 ++ 1 ∷ 0 ∷ 0 ∷ 0 ∷ codes "n"

-- the bytes of a table or union without a name, with its rows from `first` on
abbrev pub ordinal_bytes : (kind flags first count : ℕ) → List ℕ
ordinal_bytes kind flags first count = kind ∷ flags ∷ 8 ∷ 0 ∷ 16 ∷ 0 ∷ 0 ∷ 0 ∷ first ∷ 0 ∷ 0 ∷ 0
    ∷ count ∷ replicate 27 0

-- the bytes of a row of the entry 0; its name is the first byte of the names
abbrev pub row_bytes : (key : ℕ) → List ℕ
row_bytes key = key ∷ replicate 11 0 ++ 1 ∷ 0 ∷ 0 ∷ 0 ∷ []

-- a table of uint8, and of a table and a strict union with two members of it each, which have these
-- ordinals; each member's name is "n"
abbrev pub table_and_union : (a b c d : ℕ) → List ℕ
table_and_union a b c d =
    codes "FCT2" ++ 1 ∷ 0 ∷ 0 ∷ 0 ∷ 3 ∷ 0 ∷ 0 ∷ 0 ∷ 4 ∷ replicate 19 0 ++ 1 ∷ replicate 7 0
    ++ entry_bytes 6 0 1 0 0 0 ++ ordinal_bytes 17 0 0 2 ++ ordinal_bytes 18 2 2 2
    ++ row_bytes a ++ row_bytes b ++ row_bytes c ++ row_bytes d ++ codes "n"

-- the bytes of a protocol whose name is one byte of the names, at this place
abbrev pub protocol_bytes : (place openness methods : ℕ) → List ℕ
protocol_bytes place openness methods =
    place ∷ 0 ∷ 0 ∷ 0 ∷ 1 ∷ 0 ∷ 0 ∷ 0 ∷ openness ∷ 0 ∷ 0 ∷ 0 ∷ methods ∷ 0 ∷ 0 ∷ 0 ∷ []

-- the bytes of a method without payloads whose name is the first byte of the names
abbrev pub method_bytes : (ordinal flags : ℕ) → List ℕ
method_bytes ordinal flags =
    ordinal ∷ replicate 11 0 ++ 1 ∷ 0 ∷ 0 ∷ 0 ∷ flags ∷ 0 ∷ 0 ∷ 0 ∷ replicate 8 255 ++ replicate 4 0

-- a table without types, of the protocols "p" and this name with so many methods each, and of two
-- strict one-way methods with these ordinals
abbrev pub two_protocols : (openness name a b first second : ℕ) → List ℕ
two_protocols openness name a b first second =
    codes "FCT2" ++ 1 ∷ 0 ∷ 0 ∷ 0 ∷ replicate 16 0 ++ 2 ∷ 0 ∷ 0 ∷ 0 ∷ 2 ∷ 0 ∷ 0 ∷ 0 ∷ 2
    ∷ replicate 7 0
    ++ protocol_bytes 0 openness a ++ protocol_bytes 1 0 b
    ++ method_bytes first 3 ++ method_bytes second 3 ++ 112 ∷ name ∷ []

-- a method without a name: its ordinal, its flags and its payloads
abbrev pub a_method : (ordinal flags request response : ℕ) → MethodRecord
a_method ordinal flags request response = record {
  ordinal = ordinal;
  name_place = 0;
  name_length = 0;
  flags = flags;
  request = request;
  response = response;
  reserved = 0;
}
