-- Which tables are accepted (docs/table.md, "Verification").
use Rattle.std.specs.Prelude.{◌≡◌, ℕ, ◌<◌, ◌≤◌, List, length}
use Rattle.fidl_limits.specs.declared.limits.TheConstants.{MAX_ENTRIES}
use Rattle.fidl_table_format.specs.declared.record.Header.{Header}
use Rattle.fidl_table_format.specs.Section.{header_of, table_length}
use Rattle.fidl_table_format.specs.Entry.{IsEntry, rows_before, values_before}
use Rattle.fidl_table_format.specs.Root.{IsRoot}
use Rattle.fidl_table_format.specs.Protocol.{IsProtocol, methods_before}
use Rattle.fidl_table_format.specs.Method.{IsMethod}

-- "FCT2", as a number
abbrev pub table_magic : ℕ
table_magic = 0x32544346

-- the versions that are read, 1 and 2, and zeros where nothing is stated
pub record IsVersion (h : Header) : Type 0 where
  pub first : 1 ≤ h.version
  pub last : h.version ≤ 2
  pub reserved : h.reserved ≡ 0
  pub reserved_end : h.reserved_end ≡ 0

-- the mark and the version, and sections that fill the table
pub record HasHeader (bytes : List ℕ) (h : Header) : Type 0 where
  pub magic : h.magic ≡ table_magic
  pub version : IsVersion h
  pub whole : length bytes ≡ table_length h
  pub few_entries : h.entries ≤ MAX_ENTRIES

-- a table of the known kinds, with all its rules; each row and each value is of just one entry, and
-- each method of just one protocol
pub record WellFormed (bytes : List ℕ) : Type 0 where
  pub header : HasHeader bytes (header_of bytes)
  pub entries : (index : ℕ) → index < (header_of bytes).entries
      → IsEntry bytes (header_of bytes) index
  pub covered : rows_before bytes (header_of bytes).entries ≡ (header_of bytes).rows
  pub values_covered : values_before bytes (header_of bytes).entries ≡ (header_of bytes).values
  pub roots : (index : ℕ) → index < (header_of bytes).roots → IsRoot bytes (header_of bytes) index
  pub protocols : (index : ℕ) → index < (header_of bytes).protocols
      → IsProtocol bytes (header_of bytes) index
  pub methods_covered : methods_before bytes (header_of bytes) (header_of bytes).protocols
      ≡ (header_of bytes).methods
  pub methods : (index : ℕ) → index < (header_of bytes).methods
      → IsMethod bytes (header_of bytes) index
