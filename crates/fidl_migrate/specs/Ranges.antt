-- Lists of ranges of numbers, and those of a strict enum (docs/table.md, "Versions").
use Rattle.std.specs.Prelude.{ℕ, zero, suc, ◌<◌, ⊤, ℤ, pos, ◌+ℤ◌, ◌≤ℤ◌, ◌<ℤ◌, List, [], ◌∷◌}
use Rattle.std.specs.List.{flat_map}
use Rattle.fidl_wire.specs.Term.{Kind}
use Rattle.fidl_table_format.specs.declared.record.Header.{Header}
use Rattle.fidl_table_format.specs.declared.record.Entry.{Entry}
use Rattle.fidl_table_format.specs.declared.kind.EntryKind.TheVariants.{Enum}
use Rattle.fidl_table_format.specs.Section.{header_of, entry_at, range_at}
use Rattle.fidl_table_format.specs.Terms.{span, underlying, value_number}
use Rattle.fidl_table_format.specs.Entry.{IsOf}
use Rattle.fidl_table_format.specs.WellFormed.{WellFormed}

-- a range of numbers, by its ends
pub record Range : Type 0 where
  pub lowest : ℤ
  pub highest : ℤ

-- the ends of a range are in their order
abbrev pub IsInOrder : Range → Type 0
IsInOrder range = range.lowest ≤ℤ range.highest

-- the numbers of ranges, those of one behind those of the other
abbrev pub numbers_in : List Range → List ℤ
numbers_in ranges = flat_map (λ range. span range.lowest range.highest) ranges

-- between a number and the first of the ranges behind it there is another number
abbrev pub IsApartFrom : ℤ → List Range → Type 0
IsApartFrom z [] = ⊤
IsApartFrom z (next ∷ ranges) = (z +ℤ pos 1) <ℤ next.lowest

-- the ranges rise, and between each and the next there is a number
abbrev pub AreApart : List Range → Type 0
AreApart [] = ⊤
AreApart (range ∷ ranges) =
    IsInOrder range × IsApartFrom range.highest ranges × AreApart ranges

-- the range from one number to another
abbrev pub ends : (lowest highest : ℕ) → Range
ends lowest highest = record { lowest = pos lowest; highest = pos highest }

-- the ranges in `count` records from the `first` on, over this number type
abbrev pub ranges_from : List ℕ → Header → Kind → (first count : ℕ) → List Range
ranges_from bytes h kind first zero = []
ranges_from bytes h kind first (suc n) =
    let range = range_at bytes h first in
    record {
      lowest = value_number kind range.lowest;
      highest = value_number kind range.highest;
    }
    ∷ ranges_from bytes h kind (suc first) n

-- the ranges of an enum's entry
abbrev pub ranges_of : List ℕ → Entry → List Range
ranges_of bytes e = ranges_from bytes (header_of bytes) (underlying e) e.first e.count

-- the entry of this number in a well-formed table is an enum
pub record IsEnumOf (bytes : List ℕ) (index : ℕ) : Type 0 where
  pub well_formed : WellFormed bytes
  pub entry : index < (header_of bytes).entries
  pub enum : IsOf Enum (entry_at bytes index)
