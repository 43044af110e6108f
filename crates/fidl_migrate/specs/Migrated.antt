-- What the table of version 2 keeps of the table that it is made from (docs/table.md, "Versions").
use Rattle.std.specs.Prelude.{◌≡◌, ℕ, ◌<◌, List}
use Rattle.fidl_table_format.specs.Section.{header_of, entry_at, root_at, protocol_at, method_at}
use Rattle.fidl_table_format.specs.Section.{name_at}
use Rattle.fidl_table_format.specs.Terms.{declarations_of}
use Rattle.fidl_table_format.specs.WellFormed.{WellFormed}

-- the name of the entry of this number
abbrev pub entry_name : List ℕ → (index : ℕ) → List ℕ
entry_name bytes index = let e = entry_at bytes index in
    name_at bytes (header_of bytes) e.name_place e.name_length

-- the same names, each at its place in the names, and the same name of each entry
pub record KeepsNames (old new : List ℕ) : Type 0 where
  pub names : (header_of new).names ≡ (header_of old).names
  pub text : (place name_length : ℕ) → name_at new (header_of new) place name_length
      ≡ name_at old (header_of old) place name_length
  pub entries : (index : ℕ) → index < (header_of old).entries
      → entry_name new index ≡ entry_name old index

-- the same roots, protocols and methods, each at its number; their names are at the same places
pub record KeepsRecords (old new : List ℕ) : Type 0 where
  pub roots : (header_of new).roots ≡ (header_of old).roots
  pub protocols : (header_of new).protocols ≡ (header_of old).protocols
  pub methods : (header_of new).methods ≡ (header_of old).methods
  pub root : (index : ℕ) → index < (header_of old).roots
      → root_at new (header_of new) index ≡ root_at old (header_of old) index
  pub protocol : (index : ℕ) → index < (header_of old).protocols
      → protocol_at new (header_of new) index ≡ protocol_at old (header_of old) index
  pub method : (index : ℕ) → index < (header_of old).methods
      → method_at new (header_of new) index ≡ method_at old (header_of old) index

-- the same types, with the same figures, names, roots, protocols and methods
pub record IsKept (old new : List ℕ) : Type 0 where
  pub declarations : declarations_of new ≡ declarations_of old
  pub names : KeepsNames old new
  pub records : KeepsRecords old new

-- a well-formed table of version 2 that keeps what the old one says; a table of version 2 stays as
-- it is
pub record IsMigrated (old new : List ℕ) : Type 0 where
  pub well_formed : WellFormed new
  pub version : (header_of new).version ≡ 2
  pub kept : IsKept old new
  pub own : (header_of old).version ≡ 2 → new ≡ old
