-- What the entries of a table declare (docs/table.md, "Declarations").
use Rattle.std.specs.Prelude.{ℕ, zero, suc, ◌/◌, ◌%◌, ◌==◌, ℤ, pos, ◌+ℤ◌, Bool, if◌then◌else◌, List}
use Rattle.std.specs.Prelude.{[], ◌∷◌, ◌++◌, map, Option, Some, None, unwrap_or}
use Rattle.std.specs.Option.{option_map_or}
use Rattle.std.specs.Int.{w64, cast_signed, int_gap}
use Rattle.fidl_wire.specs.Term as ty
use Rattle.fidl_wire.specs.Term.{Term, Fields, no_fields, field, Rows, no_rows, row, nothing}
use Rattle.fidl_wire.specs.Term.{rows_of}
use Rattle.fidl_wire.specs.Figure.{Figure, figure, Declarations}
use Rattle.fidl_table_format.specs.declared.record.Header.{Header}
use Rattle.fidl_table_format.specs.declared.record.Entry.{Entry}
use Rattle.fidl_table_format.specs.declared.kind.EntryKind.{EntryKind}
use Rattle.fidl_table_format.specs.declared.kind.EntryKind.TheVariants.{Bool as Boolean, Bits, Enum}
use Rattle.fidl_table_format.specs.declared.kind.EntryKind.TheVariants.{String, Vector, Array, Box}
use Rattle.fidl_table_format.specs.declared.kind.EntryKind.TheVariants.{Struct, Table, Union, Handle}
use Rattle.fidl_table_format.specs.Kind.{kind_of, number_type}
use Rattle.fidl_table_format.specs.Section.{header_of, entry_at, row_at, range_at, name_at}

-- the entry has flag 1
abbrev pub is_optional : Entry → Bool
is_optional e = e.flags % 2 == 1

-- the entry has flag 2
abbrev pub is_strict : Entry → Bool
is_strict e = e.flags / 2 % 2 == 1

-- the number type of a kind; uint8 where it is no number
abbrev pub as_number : EntryKind → ty.Kind
as_number k = unwrap_or (number_type k) ty.uint8

-- the number type of bits or an enum: that of the kind that the subtype is the number of
abbrev pub underlying : Entry → ty.Kind
underlying e = option_map_or as_number (kind_of e.subtype) ty.uint8

-- the number that eight bytes of a value stand for: in two's complement where its number type is
-- signed, else as it is
abbrev pub value_number : ty.Kind → ℕ → ℤ
value_number ty.int8 n = cast_signed w64 n
value_number ty.int16 n = cast_signed w64 n
value_number ty.int32 n = cast_signed w64 n
value_number ty.int64 n = cast_signed w64 n
value_number _ n = pos n

-- so many numbers from this one on, one after the other
abbrev pub numbers_from : ℤ → (count : ℕ) → List ℤ
numbers_from z zero = []
numbers_from z (suc n) = z ∷ numbers_from (z +ℤ pos 1) n

-- the numbers from the lowest to the highest, with both; there is none where the lowest is greater
unfoldable pub span : (lowest highest : ℤ) → List ℤ
span lowest highest = numbers_from lowest (int_gap lowest (highest +ℤ pos 1))

-- the numbers of a strict enum of this number type: those in `count` ranges from the `first` on
abbrev pub values_from : List ℕ → Header → ty.Kind → (first count : ℕ) → List ℤ
values_from bytes h kind first zero = []
values_from bytes h kind first (suc n) =
    let range = range_at bytes h first in
    span (value_number kind range.lowest) (value_number kind range.highest)
    ++ values_from bytes h kind (suc first) n

-- the mask of bits, where they are strict
abbrev pub mask_of : Entry → Option ℕ
mask_of e = if is_strict e then Some e.bound else None

-- the values of an enum, where it is strict
abbrev pub strict_values : List ℕ → Header → Entry → Option (List ℤ)
strict_values bytes h e =
    if is_strict e then Some (values_from bytes h (underlying e) e.first e.count) else None

-- the members of a struct: `count` rows from the `first` on, each with its name and the entry of
-- its type
abbrev pub fields_from : List ℕ → Header → (first count : ℕ) → Fields
fields_from bytes h first zero = no_fields
fields_from bytes h first (suc n) =
    let r = row_at bytes h first in
    field (name_at bytes h r.name_place r.name_length) (ty.named r.entry)
    (fields_from bytes h (suc first) n)

-- the members of a table or union, each with its ordinal too
abbrev pub rows_from : List ℕ → Header → (first count : ℕ) → Rows
rows_from bytes h first zero = no_rows
rows_from bytes h first (suc n) =
    let r = row_at bytes h first in
    row r.key (name_at bytes h r.name_place r.name_length) (ty.named r.entry)
    (rows_from bytes h (suc first) n)

-- the type that an entry of this kind declares, one level deep: what it holds is named by its
-- entry's number
abbrev pub term_as : EntryKind → List ℕ → Header → Entry → Term
term_as Boolean bytes h e = ty.bool
term_as Bits bytes h e = ty.bits (underlying e) (mask_of e)
term_as Enum bytes h e = ty.enum (underlying e) (strict_values bytes h e)
term_as String bytes h e = ty.string (is_optional e) e.bound
term_as Vector bytes h e = ty.vector (is_optional e) e.bound (ty.named e.first)
term_as Array bytes h e = ty.array (ty.named e.first) e.count
term_as Box bytes h e = ty.box (ty.named e.first)
term_as Struct bytes h e = ty.struct (fields_from bytes h e.first e.count)
term_as Table bytes h e = ty.table (rows_from bytes h e.first e.count)
term_as Union bytes h e = ty.union (is_optional e) (is_strict e) (rows_from bytes h e.first e.count)
term_as Handle bytes h e = ty.handle (is_optional e) e.subtype e.rights
term_as k bytes h e = option_map_or ty.number (number_type k) nothing

-- the type that an entry declares; one of no kind declares a type without values
abbrev pub term_of : List ℕ → Header → Entry → Term
term_of bytes h e = option_map_or (λ k. term_as k bytes h e) (kind_of e.kind) nothing

-- the members of the table or union that the entry of this number declares
abbrev pub members_of : List ℕ → (entry : ℕ) → Rows
members_of bytes entry = rows_of (term_of bytes (header_of bytes) (entry_at bytes entry))

-- the figure that an entry states
abbrev pub stated_figure : Entry → Figure
stated_figure e = figure e.size e.alignment e.nest

-- the numbers below n
abbrev pub below : ℕ → List ℕ
below zero = []
below (suc n) = below n ++ n ∷ []

-- the declarations of a table: each entry's type, with the figures that the entries state
abbrev pub declarations_of : List ℕ → Declarations
declarations_of bytes =
    let h = header_of bytes in
    record {
      terms = map (λ i. term_of bytes h (entry_at bytes i)) (below h.entries);
      figures =
          map (λ i. stated_figure (entry_at bytes i)) (below h.entries);
    }
