-- The records of a table as text (docs/program.md, "table").
use Rattle.std.specs.Prelude.{ℕ, zero, suc, ◌==◌, if◌then◌else◌, List, [], ◌∷◌, ◌++◌, flat_map}
use Rattle.std.specs.Prelude.{codes, decimal}
use Rattle.std.specs.Option.{option_map_or}
use Rattle.fidl_table_format.specs.declared.record.Header.{Header}
use Rattle.fidl_table_format.specs.declared.kind.EntryKind.{EntryKind}
use Rattle.fidl_table_format.specs.declared.kind.EntryKind.TheVariants as kinds
use Rattle.fidl_table_format.specs.Kind.{kind_of}
use Rattle.fidl_table_format.specs.Section.{header_of, entry_at, row_at, has_ranges, range_at, root_at}
use Rattle.fidl_table_format.specs.Section.{protocol_at, method_at, name_at}
use Rattle.fidl_text.specs.declared.listing.Section.{Section}
use Rattle.fidl_text.specs.declared.listing.Section.TheVariants.{Entries, Rows, Values, Roots}
use Rattle.fidl_text.specs.declared.listing.Section.TheVariants.{Protocols, Methods}
use Rattle.fidl_text.specs.Words.{name_word, ordinal_word, payload_word, words_line}

-- the name of a kind, and of the kind of a number
abbrev pub kind_name : EntryKind → List ℕ
kind_name kinds.Bool = codes "bool"
kind_name kinds.Int8 = codes "int8"
kind_name kinds.Int16 = codes "int16"
kind_name kinds.Int32 = codes "int32"
kind_name kinds.Int64 = codes "int64"
kind_name kinds.Uint8 = codes "uint8"
kind_name kinds.Uint16 = codes "uint16"
kind_name kinds.Uint32 = codes "uint32"
kind_name kinds.Uint64 = codes "uint64"
kind_name kinds.Bits = codes "bits"
kind_name kinds.Enum = codes "enum"
kind_name kinds.String = codes "string"
kind_name kinds.Vector = codes "vector"
kind_name kinds.Array = codes "array"
kind_name kinds.Box = codes "box"
kind_name kinds.Struct = codes "struct"
kind_name kinds.Table = codes "table"
kind_name kinds.Union = codes "union"
kind_name kinds.Handle = codes "handle"

abbrev pub kind_word : ℕ → List ℕ
kind_word n = option_map_or kind_name (kind_of n) (codes "-")

-- the openness of a protocol
abbrev pub openness_word : ℕ → List ℕ
openness_word n =
    if n == 0 then codes "closed" else if n == 1 then codes "ajar" else codes "open"

-- the line of an entry: its kind, its flags, its figure, what its kind says more, and its name
abbrev pub entry_line : List ℕ → Header → (index : ℕ) → List ℕ
entry_line bytes h index =
    let e = entry_at bytes index in
    words_line (codes "entry")
    (decimal index ∷ kind_word e.kind ∷ decimal e.flags ∷ codes "size" ∷ decimal e.size
    ∷ codes "align" ∷ decimal e.alignment ∷ codes "nest" ∷ decimal e.nest
    ∷ codes "first" ∷ decimal e.first ∷ codes "count" ∷ decimal e.count
    ∷ codes "bound" ∷ decimal e.bound ∷ codes "subtype" ∷ decimal e.subtype
    ∷ codes "rights" ∷ decimal e.rights
    ∷ name_word (name_at bytes h e.name_place e.name_length) ∷ [])

-- the line of a row: its key, its entry, and its name
abbrev pub row_line : List ℕ → Header → (index : ℕ) → List ℕ
row_line bytes h index =
    let r = row_at bytes h index in
    words_line (codes "row")
    (decimal index ∷ decimal r.key ∷ decimal r.entry
    ∷ name_word (name_at bytes h r.name_place r.name_length) ∷ [])

-- the line of a record of values: its number, or in version 2 the lowest and the highest of its
-- range, as numbers without a sign
abbrev pub value_line : List ℕ → Header → (index : ℕ) → List ℕ
value_line bytes h index =
    let r = range_at bytes h index in
    words_line (codes "value")
    (decimal index ∷ decimal r.lowest ∷ (if has_ranges h then decimal r.highest ∷ [] else []))

-- the line of a root: its name, and its entry
abbrev pub root_line : List ℕ → Header → (index : ℕ) → List ℕ
root_line bytes h index =
    let r = root_at bytes h index in
    words_line (codes "root")
    (name_word (name_at bytes h r.name_place r.name_length) ∷ decimal r.entry ∷ [])

-- the line of a protocol: its name, its openness, and how many methods it has
abbrev pub protocol_line : List ℕ → Header → (index : ℕ) → List ℕ
protocol_line bytes h index =
    let p = protocol_at bytes h index in
    words_line (codes "protocol")
    (name_word (name_at bytes h p.name_place p.name_length) ∷ openness_word p.openness
    ∷ decimal p.methods ∷ [])

-- the line of a method: its ordinal, its name, its flags, and what its messages carry
abbrev pub method_line : List ℕ → Header → (index : ℕ) → List ℕ
method_line bytes h index =
    let m = method_at bytes h index in
    words_line (codes "method")
    (ordinal_word m.ordinal ∷ name_word (name_at bytes h m.name_place m.name_length)
    ∷ decimal m.flags ∷ payload_word m.request ∷ payload_word m.response ∷ [])

-- the line of a record, by its section
abbrev pub record_line : Section → List ℕ → Header → (index : ℕ) → List ℕ
record_line Entries = entry_line
record_line Rows = row_line
record_line Values = value_line
record_line Roots = root_line
record_line Protocols = protocol_line
record_line Methods = method_line

-- how many records a section has
abbrev pub count_of : Section → Header → ℕ
count_of Entries h = h.entries
count_of Rows h = h.rows
count_of Values h = h.values
count_of Roots h = h.roots
count_of Protocols h = h.protocols
count_of Methods h = h.methods

-- the lines of `count` numbers from `first` on
abbrev pub lines_from : (line : ℕ → List ℕ) → (first count : ℕ) → List ℕ
lines_from line first zero = []
lines_from line first (suc count) = line first ++ lines_from line (suc first) count

-- the lines of a section, in the order of its records
abbrev pub section_text : List ℕ → Section → List ℕ
section_text bytes section =
    let h = header_of bytes in lines_from (record_line section bytes h) 0 (count_of section h)

-- the lines of some sections
abbrev pub sections_text : List ℕ → List Section → List ℕ
sections_text bytes sections = flat_map (section_text bytes) sections

-- the lines of all records of a table: each section in its order
abbrev pub table_text : List ℕ → List ℕ
table_text bytes =
    sections_text bytes (Entries ∷ Rows ∷ Values ∷ Roots ∷ Protocols ∷ Methods ∷ [])
