-- The rules of an entry, in the order in which they are asked (docs/table.md, "Verification").
use Rattle.std.specs.Prelude.{◌≡◌, ℕ, zero, suc, ◌+◌, ◌^◌, ◌<◌, ◌≤◌, ℤ, pos, ◌+ℤ◌, ◌<ℤ◌, ◌≤ℤ◌}
use Rattle.std.specs.Prelude.{Bool, false}
use Rattle.std.specs.Prelude.{if◌then◌else◌, List, [], ◌∷◌, map, Some, IsTrue, IsFalse}
use Rattle.std.specs.Option.{option_map_or}
use Rattle.fidl_limits.specs.declared.limits.TheConstants.{MAX_INLINE_SIZE, MAX_LAYOUT_MEMBERS}
use Rattle.fidl_limits.specs.declared.limits.TheConstants.{MAX_NEST, MAX_TABLE_ORDINAL}
use Rattle.fidl_wire.specs.Figure.{Figure, figure_of, offsets}
use Rattle.fidl_wire.specs.Typed.{InRange}
use Rattle.fidl_table_format.specs.declared.record.Header.{Header}
use Rattle.fidl_table_format.specs.declared.record.Entry.{Entry}
use Rattle.fidl_table_format.specs.declared.kind.EntryKind.{EntryKind}
use Rattle.fidl_table_format.specs.declared.kind.EntryKind.TheVariants.{Bits, Enum, String, Vector}
use Rattle.fidl_table_format.specs.declared.kind.EntryKind.TheVariants.{Array, Box, Struct, Table, Union}
use Rattle.fidl_table_format.specs.Kind.{kind_of, number_type}
use Rattle.fidl_table_format.specs.Section.{entry_at, row_at, range_at, has_ranges}
use Rattle.fidl_table_format.specs.Terms.{is_strict, underlying, value_number, term_of, fields_from}
use Rattle.fidl_table_format.specs.Terms.{stated_figure, below}
use Rattle.fidl_table_format.specs.Uses.{is_number, is_unsigned, is_known, allows, uses_entry, uses_rows}
use Rattle.fidl_table_format.specs.Uses.{uses_values, uses_first, uses_count, uses_bound, uses_subtype}
use Rattle.fidl_table_format.specs.Uses.{uses_rights, uses_name, uses_ordinals}
use Rattle.fidl_table_format.specs.Name.{IsName, IsMemberName}

-- the entry is of this kind
abbrev pub IsOf : EntryKind → Entry → Type 0
IsOf k e = kind_of e.kind ≡ Some k

-- a test of the entry's kind; an entry of no kind fails it
abbrev pub kind_is : (EntryKind → Bool) → Entry → Bool
kind_is test e = option_map_or test (kind_of e.kind) false

-- a test of the kind that the subtype is the number of; the number of no kind fails it
abbrev pub subtype_is : (EntryKind → Bool) → Entry → Bool
subtype_is test e = option_map_or test (kind_of e.subtype) false

-- what an entry does not use is zero
pub record IsZeroElsewhere (e : Entry) : Type 0 where
  pub first : IsFalse (kind_is uses_first e) → e.first ≡ 0
  pub count : IsFalse (kind_is (uses_count (is_strict e)) e) → e.count ≡ 0
  pub bound : IsFalse (kind_is (uses_bound (is_strict e)) e) → e.bound ≡ 0
  pub subtype : IsFalse (kind_is uses_subtype e) → e.subtype ≡ 0
  pub rights : IsFalse (kind_is uses_rights e) → e.rights ≡ 0
  pub name_place : IsFalse (kind_is uses_name e) → e.name_place ≡ 0
  pub name_length : IsFalse (kind_is uses_name e) → e.name_length ≡ 0

-- the subtype is the number of a kind of numbers, whose number type is the underlying type
abbrev pub HasNumberKind : Entry → Type 0
HasNumberKind e = (k : EntryKind) × (kind_of e.subtype ≡ Some k)
    × (number_type k ≡ Some (underlying e))

-- bits have an underlying type without a sign, which their mask fits
pub record HasMask (e : Entry) : Type 0 where
  pub subtype : IsTrue (subtype_is is_unsigned e)
  pub mask : InRange (underlying e) (pos e.bound)

-- an enum has an underlying type, and has values where it is strict
pub record HasValues (e : Entry) : Type 0 where
  pub subtype : IsTrue (subtype_is is_number e)
  pub some : IsTrue (is_strict e) → 0 < e.count

-- a known kind with flags of its own, and only what that kind uses is not zero; rows and values are
-- not too many, a strict union has rows, and bounds have 32 bits
pub record HasShape (e : Entry) : Type 0 where
  pub known : IsTrue (kind_is is_known e)
  pub flags : IsTrue (kind_is (allows e.flags) e)
  pub unused : IsZeroElsewhere e
  pub few_rows : IsTrue (kind_is uses_rows e) → e.count ≤ MAX_LAYOUT_MEMBERS
  pub few_values : IsTrue (kind_is uses_values e) → e.count ≤ MAX_LAYOUT_MEMBERS
  pub table_rows : IsOf Table e → e.count ≤ MAX_TABLE_ORDINAL
  pub union_rows : IsOf Union e → IsTrue (is_strict e) → 0 < e.count
  pub bits : IsOf Bits e → HasMask e
  pub enum : IsOf Enum e → HasValues e
  pub text_bound : IsOf String e → e.bound < 2 ^ 32
  pub count_bound : IsOf Vector e → e.bound < 2 ^ 32

-- how many rows, or values, an entry has; `uses` says which kinds have them
abbrev pub parts_of : (uses : EntryKind → Bool) → Entry → ℕ
parts_of uses e = if kind_is uses e then e.count else 0

-- how many of them the entries before this one have together
abbrev pub parts_before : (uses : EntryKind → Bool) → List ℕ → (index : ℕ) → ℕ
parts_before uses bytes zero = 0
parts_before uses bytes (suc index) =
    parts_before uses bytes index + parts_of uses (entry_at bytes index)

-- how many rows an entry has
abbrev pub rows_of : Entry → ℕ
rows_of = parts_of uses_rows

-- how many rows, and how many values, the entries before this one have together
abbrev pub rows_before : List ℕ → (index : ℕ) → ℕ
rows_before = parts_before uses_rows

abbrev pub values_before : List ℕ → (index : ℕ) → ℕ
values_before = parts_before uses_values

-- the row of this number is a member of this entry
pub record IsRowOf (e : Entry) (row : ℕ) : Type 0 where
  pub has_rows : IsTrue (kind_is uses_rows e)
  pub from : e.first ≤ row
  pub to : row < e.first + e.count

-- what `first` refers to is in the table: an entry, which is a struct where it stands in a box,
-- rows whose types have entries, or values
pub record HasChildren (bytes : List ℕ) (h : Header) (e : Entry) : Type 0 where
  pub elements : IsTrue (kind_is uses_entry e) → e.first < h.entries
  pub content : IsOf Box e → IsOf Struct (entry_at bytes e.first)
  pub within : IsTrue (kind_is uses_rows e) → e.first + e.count ≤ h.rows
  pub members : IsTrue (kind_is uses_rows e) → (k : ℕ) → k < e.count
      → (row_at bytes h (e.first + k)).entry < h.entries
  pub values : IsTrue (kind_is uses_values e) → e.first + e.count ≤ h.values

-- an entry's rows, or values, follow those of the entries before it, of which there are `before`
abbrev pub Follows : (uses : EntryKind → Bool) → (before : ℕ) → Entry → Type 0
Follows uses before e = IsTrue (kind_is uses e) → e.first ≡ before

-- the member of this place in a struct lies within it, and ends before the next begins
pub record IsApart (bytes : List ℕ) (h : Header) (e : Entry) (k : ℕ) : Type 0 where
  pub within : let r = row_at bytes h (e.first + k) in r.key + (entry_at bytes r.entry).size
      ≤ e.size
  pub before : suc k < e.count → let r = row_at bytes h (e.first + k) in
      r.key + (entry_at bytes r.entry).size ≤ (row_at bytes h (e.first + suc k)).key

-- the figures that the entries state
abbrev pub figures_of : List ℕ → Header → List Figure
figures_of bytes h = map (λ i. stated_figure (entry_at bytes i)) (below h.entries)

-- the figure of the entry's type, over the figures that the entries state
abbrev pub entry_figure : List ℕ → Header → Entry → Figure
entry_figure bytes h e = figure_of (figures_of bytes h) (term_of bytes h e)

-- the keys of the rows from the `first` on
abbrev pub keys_from : List ℕ → Header → (first count : ℕ) → List ℕ
keys_from bytes h first zero = []
keys_from bytes h first (suc n) = (row_at bytes h first).key ∷ keys_from bytes h (suc first) n

-- the keys are the offsets that members of these types have
abbrev pub AreOffsets : List ℕ → Header → (first count : ℕ) → Type 0
AreOffsets bytes h first count = keys_from bytes h first count
    ≡ offsets (figures_of bytes h) 0 (fields_from bytes h first count)

-- a struct's keys are the offsets of its members
abbrev pub HasOffsets : List ℕ → Header → Entry → Type 0
HasOffsets bytes h e = IsOf Struct e → AreOffsets bytes h e.first e.count

-- size and alignment are those of this figure, the size is within the limit, and an array has
-- elements
pub record HasSize (f : Figure) (e : Entry) : Type 0 where
  pub size : e.size ≡ f.size
  pub alignment : e.alignment ≡ f.align
  pub limit : e.size ≤ MAX_INLINE_SIZE
  pub elements : IsOf Array e → 0 < e.count

-- the nest is that of this figure, and within the limit
pub record HasNest (f : Figure) (e : Entry) : Type 0 where
  pub nest : e.nest ≡ f.nest
  pub limit : e.nest ≤ MAX_NEST

-- the ends of the range of this place in a strict enum
abbrev pub lowest_value : List ℕ → Header → Entry → (k : ℕ) → ℤ
lowest_value bytes h e k = value_number (underlying e) (range_at bytes h (e.first + k)).lowest

abbrev pub highest_value : List ℕ → Header → Entry → (k : ℕ) → ℤ
highest_value bytes h e k = value_number (underlying e) (range_at bytes h (e.first + k)).highest

-- the range of this place in a strict enum has its ends in their order and in the underlying type,
-- and stands before the next; ranges of version 2 don't touch: there is a number between the two
pub record IsEnumRange (bytes : List ℕ) (h : Header) (e : Entry) (k : ℕ) : Type 0 where
  pub lowest : InRange (underlying e) (lowest_value bytes h e k)
  pub highest : InRange (underlying e) (highest_value bytes h e k)
  pub order : lowest_value bytes h e k ≤ℤ highest_value bytes h e k
  pub rises : suc k < e.count → highest_value bytes h e k <ℤ lowest_value bytes h e (suc k)
  pub apart : IsTrue (has_ranges h) → suc k < e.count
      → (highest_value bytes h e k +ℤ pos 1) <ℤ lowest_value bytes h e (suc k)

-- the key of the row of this place in an entry: in a table or union, an ordinal
abbrev pub row_key : List ℕ → Header → Entry → (k : ℕ) → ℕ
row_key bytes h e k = (row_at bytes h (e.first + k)).key

-- the ordinal of this place in a table or union is at least 1, in a table at most the greatest, and
-- less than the next
pub record IsOrdinal (bytes : List ℕ) (h : Header) (e : Entry) (k : ℕ) : Type 0 where
  pub some : 0 < row_key bytes h e k
  pub limit : IsOf Table e → row_key bytes h e k ≤ MAX_TABLE_ORDINAL
  pub rises : suc k < e.count → row_key bytes h e k < row_key bytes h e (suc k)

-- the ordinals of a table or union rise, and so do the ranges of a strict enum
pub record IsSorted (bytes : List ℕ) (h : Header) (e : Entry) : Type 0 where
  pub ordinals : IsTrue (kind_is uses_ordinals e) → (k : ℕ) → k < e.count → IsOrdinal bytes h e k
  pub values : IsOf Enum e → (k : ℕ) → k < e.count → IsEnumRange bytes h e k

-- the names of the entry and of its rows
pub record HasNames (bytes : List ℕ) (h : Header) (e : Entry) : Type 0 where
  pub own : IsName bytes h e.name_place e.name_length
  pub members : IsTrue (kind_is uses_rows e) → (k : ℕ) → k < e.count
      → let r = row_at bytes h (e.first + k) in IsMemberName bytes h r.name_place r.name_length

-- all the rules of the entry of this number; its figure is that of its type
pub record IsEntry (bytes : List ℕ) (h : Header) (index : ℕ) : Type 0 where
  pub shape : HasShape (entry_at bytes index)
  pub children : HasChildren bytes h (entry_at bytes index)
  pub rows : Follows uses_rows (rows_before bytes index) (entry_at bytes index)
  pub values : Follows uses_values (values_before bytes index) (entry_at bytes index)
  pub offsets : HasOffsets bytes h (entry_at bytes index)
  pub size : HasSize (entry_figure bytes h (entry_at bytes index)) (entry_at bytes index)
  pub nest : HasNest (entry_figure bytes h (entry_at bytes index)) (entry_at bytes index)
  pub sorted : IsSorted bytes h (entry_at bytes index)
  pub names : HasNames bytes h (entry_at bytes index)
