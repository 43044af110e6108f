-- The parts of two tables that are compared.
use Rattle.std.specs.Prelude.{◌≡◌, ℕ, ◌<◌, ℤ, List, drop, IsTrue, IsFalse}
use Rattle.fidl_table_format.specs.declared.record.Header.{Header}
use Rattle.fidl_table_format.specs.declared.record.Entry.{Entry}
use Rattle.fidl_table_format.specs.Section.{header_of, entry_at, row_at, value_place}
use Rattle.fidl_table_format.specs.Terms.{underlying, values_from}
use Rattle.fidl_table_format.specs.Uses.{uses_values}
use Rattle.fidl_table_format.specs.Entry.{kind_is}

-- as many records of each section but that of values, and as many bytes of names
pub record HasCounts (before after : Header) : Type 0 where
  pub entries : after.entries ≡ before.entries
  pub rows : after.rows ≡ before.rows
  pub roots : after.roots ≡ before.roots
  pub protocols : after.protocols ≡ before.protocols
  pub methods : after.methods ≡ before.methods
  pub names : after.names ≡ before.names

-- one entry but for `first` and `count`
pub record HasFields (before after : Entry) : Type 0 where
  pub kind : after.kind ≡ before.kind
  pub flags : after.flags ≡ before.flags
  pub alignment : after.alignment ≡ before.alignment
  pub nest : after.nest ≡ before.nest
  pub size : after.size ≡ before.size
  pub bound : after.bound ≡ before.bound
  pub subtype : after.subtype ≡ before.subtype
  pub rights : after.rights ≡ before.rights
  pub name_place : after.name_place ≡ before.name_place
  pub name_length : after.name_length ≡ before.name_length

-- the numbers that the values of an entry are, over its underlying type
abbrev pub numbers_of : List ℕ → Entry → List ℤ
numbers_of bytes e = values_from bytes (header_of bytes) (underlying e) e.first e.count

-- the entry is the same, but that an enum has its values elsewhere, which are the same numbers
pub record KeepsEntry (old new : List ℕ) (before after : Entry) : Type 0 where
  pub fields : HasFields before after
  pub first : IsFalse (kind_is uses_values before) → after.first ≡ before.first
  pub count : IsFalse (kind_is uses_values before) → after.count ≡ before.count
  pub values : IsTrue (kind_is uses_values before) → numbers_of new after ≡ numbers_of old before

-- each row is the same
abbrev pub KeepsRows : (old new : List ℕ) → Type 0
KeepsRows old new = (index : ℕ) → index < (header_of old).rows
    → row_at new (header_of new) index ≡ row_at old (header_of old) index

-- each entry is kept
abbrev pub KeepsEntries : (old new : List ℕ) → Type 0
KeepsEntries old new = (index : ℕ) → index < (header_of old).entries
    → KeepsEntry old new (entry_at old index) (entry_at new index)

-- the bytes behind the values are the same
abbrev pub KeepsRest : (old new : List ℕ) → Type 0
KeepsRest old new =
    drop (value_place (header_of new) (header_of new).values) new
    ≡ drop (value_place (header_of old) (header_of old).values) old
